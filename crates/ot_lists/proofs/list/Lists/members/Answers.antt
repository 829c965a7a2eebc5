use Rattle.std.specs.Prelude.{IfOk}
use Rattle.std.proofs.Common.{◌≡◌, ◌<◌, List, ℕ, length, map, reverse, sym, ap, subst, ◌∙◌}
use Rattle.ot_logic.specs.Trees.{Variable}
use Rattle.ot_lists.specs.Variables.{variable_of, list_at}
use Rattle.ot_lists.proofs.Lifting.{list-within, list-at}
use Rattle.ot_lists.proofs.list.Lists.members.Goals as goal

pub returns : goal.returns
returns c =
    let T = c.self.inside.table in
    let h = list-within T c.args.id
    (subst (λ (ls : List (List (Variable ℕ))). c.args.id < length ls) (sym c.self.view_is) c.requires) in
    subst (λ (vs : List (Variable ℕ)). IfOk c.members.result (λ keys. map variable_of (reverse keys.items) ≡ vs))
    (sym (list-at T c.args.id h) ∙ ap (λ (ls : List (List (Variable ℕ))). list_at ls c.args.id) c.self.view_is)
    c.members.ensures
