use Rattle.std.specs.Prelude.{IfOk}
use Rattle.std.proofs.Common.{◌≡◌, ℕ, List, Some, slice_get, sym, subst, ◌∙◌}
use Rattle.ot_logic.specs.Lists.{AreDistinct}
use Rattle.ot_lists.specs.SequenceTable.{sequence_at}
use Rattle.ot_lists.specs.Frames.{nested}
use Rattle.std.specs.Prelude.{remove}
use Rattle.ot_lists.proofs.Sublists.{removed-distinct}
use Rattle.ot_lists.proofs.FrameLemmas.{within-tops, within-nested, grows-trans}
use Rattle.ot_lists.proofs.Seams.{distinct_at}
use Rattle.ot_lists.proofs.sequence.Sequences.without.Goals as goal
use Rattle.ot_lists.proofs.sequence.Sequences.without.Goals.{In_ok-middle}

-- what the frames make with the gap closed
closed : (c : In_ok-middle) → nested c.append.new.self c.gap.new.frames.items (sequence_at c.append.new.self c.in_ok-middle.middle)
    ≡ remove (sequence_at c.args.self.now c.args.id) c.args.place
closed c = within-nested c.args.self.now c.append.new.self c.in_ok-middle.ensures.grows c.gap.new.frames.items _
    c.in_ok-middle.middle c.in_ok-middle.ensures.ok c.in_ok-sides.ensures.tops ∙ c.in_ok-sides.ensures.whole

pub fill-requires-clause-tops : goal.fill-requires-clause-tops
fill-requires-clause-tops c =
    within-tops c.args.self.now c.append.new.self c.in_ok-middle.ensures.grows c.gap.new.frames.items _
    c.in_ok-middle.middle c.in_ok-middle.ensures.ok c.in_ok-sides.ensures.tops

pub fill-requires-clause-distinct : goal.fill-requires-clause-distinct
fill-requires-clause-distinct c =
    subst AreDistinct (sym (closed ((goal.at.fill-requires-clause-distinct c).In_ok-middle)))
    (removed-distinct (sequence_at c.args.self.now c.args.id) c.args.place
    (distinct_at c.args.self.now c.in_ok-sides.ensures.table c.args.id c.requires.id))

pub returns-clause-ok : goal.returns-clause-ok
returns-clause-ok c =
    subst (λ (l : List ℕ). IfOk c.fill.result (λ id. slice_get c.fill.new.self.lists id ≡ Some l))
    (closed ((goal.at.returns-clause-ok c).In_ok-middle)) c.fill.ensures.ok

pub returns-clause-grows : goal.returns-clause-grows
returns-clause-grows c = grows-trans c.in_ok-middle.ensures.grows c.fill.ensures.grows
