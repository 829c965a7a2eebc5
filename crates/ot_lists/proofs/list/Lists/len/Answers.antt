use Rattle.std.proofs.Common.{◌<◌, List, ℕ, length, sym, subst}
use Rattle.ot_logic.specs.Lists.{AreDistinct}
use Rattle.ot_logic.specs.Trees.{Variable}
use Rattle.ot_logic.specs.Table.{IsInjective}
use Rattle.ot_lists.specs.Variables.{list_at}
use Rattle.ot_lists.proofs.Lifting.{list-within, list-distinct, lists-once}
use Rattle.ot_lists.proofs.list.Lists.len.Goals as goal

pub returns-clause-once : goal.returns-clause-once
returns-clause-once c =
    subst (λ (ls : List (List (Variable ℕ))). AreDistinct (list_at ls c.args.id)) c.self.view_is
    (list-distinct c.self.inside.table c.len.ensures.table c.args.id
    (list-within c.self.inside.table c.args.id
    (subst (λ (ls : List (List (Variable ℕ))). c.args.id < length ls) (sym c.self.view_is) c.requires)))

pub returns-clause-injective : goal.returns-clause-injective
returns-clause-injective c = subst IsInjective c.self.view_is (lists-once c.self.inside.table c.len.ensures.table)
