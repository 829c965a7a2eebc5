use Rattle.std.proofs.Common.{◌+◌, ◌++◌, ◌∷◌, List, ℕ, subst, arith}
use Rattle.ot_lists.specs.SequenceTable.{sequence_at}
use Rattle.ot_lists.specs.Pieces.{IsPartAt}
use Rattle.ot_lists.proofs.Seams.{IsCut, cut-of}
use Rattle.ot_lists.proofs.PieceLemmas.{at-start, at-number, at-behind}
use Rattle.ot_lists.proofs.sequence.Sequences.cut_at.Goals as goal
use Rattle.ot_lists.proofs.sequence.Sequences.cut_at.Goals.{In-Cut}

pub cut-init : goal.cut-init
cut-init c = (c.requires, at-start (sequence_at c.args.self.now c.args.id))

-- the part is cut at its number
cut : (c : In-Cut) → IsCut c.args.self.now c.cut.rest c.in-Cut.before c.in-Cut.number c.in-Cut.behind
cut c = cut-of c.args.self.now c.cut.rest c.node.result.now c.in-Cut.before c.in-Cut.number c.in-Cut.behind
    c.node.ensures.is c.node.ensures.below c.node.ensures.top c.in-Cut.is

here : (c : In-Cut) → IsPartAt (sequence_at c.args.self.now c.args.id)
    (sequence_at c.args.self.now c.in-Cut.before ++ c.in-Cut.number ∷ sequence_at c.args.self.now c.in-Cut.behind)
    c.cut.begin
here c = subst (λ (l : List ℕ). IsPartAt (sequence_at c.args.self.now c.args.id) l c.cut.begin) (cut c).cut
    c.cut.invariant.1

pub returns-then-place-middle-clause-number : goal.returns-then-place-middle-clause-number
returns-then-place-middle-clause-number c =
    at-number _ _ _ _ _ (here ((goal.at.returns-then-place-middle-clause-number c).In-Cut)) c.args.place
    (omega (arith, c.if-place-middle.true, c.len.ensures.count))

pub cut-preserved : goal.cut-preserved
cut-preserved c =
    let d = (goal.at.cut-preserved c).In-Cut in
    ((cut d).behind_in, at-behind _ _ _ _ _ (here d) _ (omega (arith, c.len.ensures.count)))
