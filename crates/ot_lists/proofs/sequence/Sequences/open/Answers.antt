use Rattle.std.proofs.Common.{◌≡◌, ◌∷◌, [], ◌++◌, length, length-append, ap, subst, ◌∙◌}
use Rattle.ot_lists.specs.SequenceTable.{sequence_at}
use Rattle.ot_lists.specs.Sequences.{sequence_of, IsBelow}
use Rattle.ot_lists.specs.Parts.{spread}
use Rattle.ot_lists.specs.declared.sequence.walk.Part.TheVariants.{Tree, One}
use Rattle.ot_lists.proofs.PartLemmas.{opened, spread-opened, steps-opened, parts-opened}
use Rattle.ot_lists.proofs.sequence.Sequences.open.Goals as goal
use Rattle.ot_lists.proofs.sequence.Sequences.open.Goals.{In_ok-push-3}

-- the tree's parts stand where it stood
items : (c : In_ok-push-3) → c.push-in-Cut-2.new.self.items
    ≡ opened c.args.self.now c.args.parts.now.items c.in-Cut.before c.in-Cut.x c.in-Cut.behind
items c =
    c.in_ok-push-3.ensures.items
    ∙ ap (λ ps. ps ++ Tree c.in-Cut.behind ∷ [])
    (c.in_ok-push-2.ensures.items ∙ ap (λ ps. ps ++ One c.in-Cut.x ∷ []) c.in_ok-push.ensures.items)

cut : (c : In_ok-push-3) → sequence_at c.args.self.now c.args.tree
    ≡ sequence_at c.args.self.now c.in-Cut.before ++ c.in-Cut.x ∷ sequence_at c.args.self.now c.in-Cut.behind
cut c = c.node.ensures.is ∙ ap (sequence_of c.args.self.now.lists) c.in-Cut.is

pub returns-in_ok-push-3-clause-spread : goal.returns-in_ok-push-3-clause-spread
returns-in_ok-push-3-clause-spread c =
    let d = (goal.at.returns-in_ok-push-3-clause-spread c).In_ok-push-3 in
    ap (spread c.args.self.now) (items d) ∙ spread-opened c.args.self.now _ _ _ _ c.args.tree (cut d)

pub returns-in_ok-push-3-clause-steps : goal.returns-in_ok-push-3-clause-steps
returns-in_ok-push-3-clause-steps c =
    let d = (goal.at.returns-in_ok-push-3-clause-steps c).In_ok-push-3 in
    rw (items d) (steps-opened c.args.self.now _ _ _ _ _ (ap length (cut d) ∙ length-append _ _))

pub returns-in_ok-push-3-clause-parts : goal.returns-in_ok-push-3-clause-parts
returns-in_ok-push-3-clause-parts c =
    let d = (goal.at.returns-in_ok-push-3-clause-parts c).In_ok-push-3 in
    let below = subst (IsBelow (length c.args.self.now.lists)) c.in-Cut.is c.node.ensures.below in
    rw (items d) (parts-opened c.args.self.now _ _ _ _ c.requires.parts below.0 below.1)
