use Rattle.std.proofs.Common.{◌≡◌, ◌+◌, ◌-◌, ◌<◌, suc, length, arith, ◌∙◌}
use Rattle.ot_lists.specs.SequenceTable.{sequence_at}
use Rattle.ot_lists.proofs.Seams.{IsCut, cut-of, gap-none, gap-distinct, gap-here, gap-before, gap-behind}
use Rattle.ot_lists.proofs.sequence.Sequences.gap.Goals as goal
use Rattle.ot_lists.proofs.sequence.Sequences.gap.Goals.{In-Cut}

pub gap-init : goal.gap-init
gap-init c = gap-none c.args.self.now c.args.frames.now.items c.args.id c.args.place c.requires.none c.requires.id
    c.requires.place

one : (c : In-Cut) → IsCut c.args.self.now c.gap.rest c.in-Cut.before c.in-Cut.x c.in-Cut.behind
one c = cut-of c.args.self.now c.gap.rest c.node.result.now c.in-Cut.before c.in-Cut.x c.in-Cut.behind
    c.node.ensures.is c.node.ensures.below c.node.ensures.top c.in-Cut.is

pub returns-then-at-left-clause-whole : goal.returns-then-at-left-clause-whole
returns-then-at-left-clause-whole c =
    (gap-here c.args.self.now c.len-count.ensures.table c.gap.frames.items c.gap.rest c.gap.at _ c.gap.invariant
    c.in-Cut.before c.in-Cut.x c.in-Cut.behind (one ((goal.at.returns-then-at-left-clause-whole c).In-Cut))
    (c.if-at-left.true ∙ c.len-left.ensures.count)).0

pub returns-then-at-left-clause-tops : goal.returns-then-at-left-clause-tops
returns-then-at-left-clause-tops c =
    (gap-here c.args.self.now c.len-count.ensures.table c.gap.frames.items c.gap.rest c.gap.at _ c.gap.invariant
    c.in-Cut.before c.in-Cut.x c.in-Cut.behind (one ((goal.at.returns-then-at-left-clause-tops c).In-Cut))
    (c.if-at-left.true ∙ c.len-left.ensures.count)).1

pub returns-then-at-left-clause-distinct : goal.returns-then-at-left-clause-distinct
returns-then-at-left-clause-distinct c =
    gap-distinct c.args.self.now c.len-count.ensures.table c.gap.frames.items c.gap.rest c.gap.at _ c.gap.invariant
    c.in-Cut.before c.in-Cut.x c.in-Cut.behind (one ((goal.at.returns-then-at-left-clause-distinct c).In-Cut))

pub gap-preserved-then-at-left-2 : goal.gap-preserved-then-at-left-2
gap-preserved-then-at-left-2 c =
    let k : c.gap.at < length (sequence_at c.args.self.now c.in-Cut.before) =
    omega (arith, c.if-at-left-2.true, c.len-left.ensures.count) in
    gap-before c.args.self.now c.len-count.ensures.table c.gap.frames.items c.gap.rest c.gap.at _ c.gap.invariant
    c.in-Cut.before c.in-Cut.x c.in-Cut.behind (one ((goal.at.gap-preserved-then-at-left-2 c).In-Cut)) k _
    c.in_ok-push.ensures.items

pub gap-preserved : goal.gap-preserved
gap-preserved c =
    let k : c.gap.at ≡ length (sequence_at c.args.self.now c.in-Cut.before) + suc (c.gap.at - (c.len-left.result + 1)) =
    omega (arith, c.if-at-left.false, c.if-at-left-2.false, c.len-left.ensures.count) in
    gap-behind c.args.self.now c.len-count.ensures.table c.gap.frames.items c.gap.rest c.gap.at _ c.gap.invariant
    c.in-Cut.before c.in-Cut.x c.in-Cut.behind (one ((goal.at.gap-preserved c).In-Cut)) _ k _
    c.in_ok-push-2.ensures.items
