use Rattle.ot_lists.specs.SequenceTable.{sequence_at}
use Rattle.ot_lists.proofs.Sublists.{none-left}
use Rattle.ot_lists.proofs.FrameLemmas.{IsFrame, grows-trans}
use Rattle.ot_lists.proofs.FrameLemmas.{filling-none, filling-frame, filling-distinct, filling-next, filling-all}
use Rattle.ot_lists.proofs.sequence.Sequences.fill.Goals as goal
use Rattle.ot_lists.proofs.sequence.Sequences.fill.Goals.{In-Some}

pub loop-frame-init : goal.loop-frame-init
loop-frame-init c = filling-none c.args.self.now c.args.frames.items c.args.middle c.requires.middle c.requires.tops
    c.requires.table

-- the frame that is taken off
one : (c : In-Some) → IsFrame c.loop-frame.self c.in-Some.frame (sequence_at c.loop-frame.self c.loop-frame.list)
one c = filling-frame _ _ c.loop-frame.frames.items c.pop.new.self.items c.in-Some.frame c.loop-frame.list _
    c.in-Some.ensures.items c.loop-frame.invariant

pub fill_one-requires-clause-list : goal.fill_one-requires-clause-list
fill_one-requires-clause-list c = c.loop-frame.invariant.below

pub fill_one-requires-clause-side : goal.fill_one-requires-clause-side
fill_one-requires-clause-side c = (one ((goal.at.fill_one-requires-clause-side c).In-Some)).side

pub fill_one-requires-clause-key : goal.fill_one-requires-clause-key
fill_one-requires-clause-key c = (one ((goal.at.fill_one-requires-clause-key c).In-Some)).key

pub fill_one-requires-clause-top : goal.fill_one-requires-clause-top
fill_one-requires-clause-top c = (one ((goal.at.fill_one-requires-clause-top c).In-Some)).top

pub fill_one-requires-clause-distinct : goal.fill_one-requires-clause-distinct
fill_one-requires-clause-distinct c =
    filling-distinct _ _ c.loop-frame.frames.items c.pop.new.self.items c.in-Some.frame c.loop-frame.list _
    c.in-Some.ensures.items c.loop-frame.invariant c.requires.distinct

pub loop-frame-preserved : goal.loop-frame-preserved
loop-frame-preserved c =
    filling-next _ _ c.loop-frame.frames.items c.pop.new.self.items c.in-Some.frame c.loop-frame.list _
    c.in-Some.ensures.items c.loop-frame.invariant c.fill_one.new.self c.in_ok-list.list c.in_ok-list.ensures.ok
    c.in_ok-list.ensures.grows c.in_ok-list.ensures.table

pub returns-in_err-list-clause-grows : goal.returns-in_err-list-clause-grows
returns-in_err-list-clause-grows c = grows-trans c.loop-frame.invariant.grown c.fill_one.ensures.grows

pub returns-clause-ok : goal.returns-clause-ok
returns-clause-ok c =
    filling-all _ c.loop-frame.self c.loop-frame.frames.items c.loop-frame.list _
    (none-left c.loop-frame.frames c.in_default.ensures.cases.0) c.loop-frame.invariant

pub returns-clause-grows : goal.returns-clause-grows
returns-clause-grows c = c.loop-frame.invariant.grown

pub returns-clause-table : goal.returns-clause-table
returns-clause-table c = c.loop-frame.invariant.table
