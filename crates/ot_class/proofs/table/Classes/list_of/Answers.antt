use Rattle.std.proofs.Common.{[], ◌∷◌, ◌++◌, slice_get, Some, ap, ◌∙◌}
use Rattle.std.proofs.lemmas.Option.{get_or_from_slice_get}
use Rattle.ot_lists.specs.Variables.{variable_of}
use Rattle.ot_class.specs.Class.{ClassTable}
use Rattle.ot_class.proofs.Growing.{stays-lists}
use Rattle.ot_class.proofs.table.Classes.list_of.Goals as goal

pub invariant_of-self : goal.invariant_of-self
invariant_of-self c =
    (stays-lists _ _ _ _ c.self.invariant _ c.self.view_is c.push.new.self c.push.ensures.extends
    c.push.ensures.once).sound

pub invariant_of-self-2 : goal.invariant_of-self-2
invariant_of-self-2 c =
    (stays-lists _ _ _ _ c.self.invariant _ c.self.view_is c.push.new.self c.push.ensures.extends
    c.push.ensures.once).sound

pub returns-clause-ok : goal.returns-clause-ok
returns-clause-ok c =
    let none = ap (λ (t : ClassTable). slice_get t.lists c.in_ok-empty.empty) c.self.view_is ∙ c.in_ok-empty.ensures.ok
    in
    c.in_ok-push.ensures.ok
    ∙ ap (λ vs. Some (vs ++ variable_of c.args.v ∷ []))
    (get_or_from_slice_get c.self.inside.lists c.in_ok-empty.empty [] [] none)
