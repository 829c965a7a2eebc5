use Rattle.std.proofs.Common.{◌≡◌, suc, ◌+◌, ◌∷◌, [], ◌++◌, length, length-append, ap, subst, ◌∙◌, arith}
use Rattle.ot_lists.specs.SequenceTable.{sequence_at}
use Rattle.ot_lists.specs.Sequences.{sequence_of, IsBelow}
use Rattle.ot_lists.specs.Pieces.{ahead}
use Rattle.ot_lists.specs.declared.sequence.walk.Part.TheVariants.{Tree, One}
use Rattle.ot_lists.proofs.PartLemmas.{opened, steps-opened, parts-opened}
use Rattle.ot_lists.proofs.PieceLemmas.{ahead-opened}
use Rattle.ot_lists.proofs.sequence.Sequences.put_back.Goals as goal
use Rattle.ot_lists.proofs.sequence.Sequences.put_back.Goals.{In_ok-push-3}

-- the tree's parts stand where it stood, the first one last
items : (c : In_ok-push-3) → c.push-in-Cut-2.new.self.items
    ≡ opened c.args.self.now c.args.parts.now.items c.in-Cut.behind c.in-Cut.x c.in-Cut.before
items c =
    c.in_ok-push-3.ensures.items
    ∙ ap (λ ps. ps ++ Tree c.in-Cut.before ∷ [])
    (c.in_ok-push-2.ensures.items ∙ ap (λ ps. ps ++ One c.in-Cut.x ∷ []) c.in_ok-push.ensures.items)

cut : (c : In_ok-push-3) → sequence_at c.args.self.now c.args.tree
    ≡ sequence_at c.args.self.now c.in-Cut.before ++ c.in-Cut.x ∷ sequence_at c.args.self.now c.in-Cut.behind
cut c = c.node.ensures.is ∙ ap (sequence_of c.args.self.now.lists) c.in-Cut.is

pub returns-in_ok-push-3-clause-ahead : goal.returns-in_ok-push-3-clause-ahead
returns-in_ok-push-3-clause-ahead c =
    let d = (goal.at.returns-in_ok-push-3-clause-ahead c).In_ok-push-3 in
    ap (ahead c.args.self.now) (items d)
    ∙ ahead-opened c.args.self.now c.args.parts.now.items c.args.tree c.in-Cut.before c.in-Cut.x c.in-Cut.behind (cut d)

pub returns-in_ok-push-3-clause-steps : goal.returns-in_ok-push-3-clause-steps
returns-in_ok-push-3-clause-steps c =
    let d = (goal.at.returns-in_ok-push-3-clause-steps c).In_ok-push-3 in
    let n = ap length (cut d) ∙ length-append (sequence_at c.args.self.now c.in-Cut.before) _ in
    let e : length (sequence_at c.args.self.now c.args.tree) ≡ length (sequence_at c.args.self.now c.in-Cut.behind)
    + suc (length (sequence_at c.args.self.now c.in-Cut.before)) = omega (arith, n) in
    rw (items d) (steps-opened c.args.self.now c.args.parts.now.items c.in-Cut.behind c.in-Cut.x c.in-Cut.before _ e)

pub returns-in_ok-push-3-clause-parts : goal.returns-in_ok-push-3-clause-parts
returns-in_ok-push-3-clause-parts c =
    let d = (goal.at.returns-in_ok-push-3-clause-parts c).In_ok-push-3 in
    let below = subst (IsBelow (length c.args.self.now.lists)) c.in-Cut.is c.node.ensures.below in
    rw (items d)
    (parts-opened c.args.self.now c.args.parts.now.items c.in-Cut.behind c.in-Cut.x c.in-Cut.before c.requires.parts
    below.1 below.0)
