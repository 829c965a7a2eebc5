use Rattle.std.proofs.Common.{List, ℕ, [], subst}
use Rattle.ot_logic.specs.Trees.{Variable}
use Rattle.ot_logic.specs.Table.{Extends}
use Rattle.ot_lists.specs.Lists.{lists_of}
use Rattle.ot_lists.proofs.Lifting.{list-get, lists-kept, lists-once}
use Rattle.ot_lists.proofs.list.Lists.empty.Goals as goal

pub returns-in_err-empty-clause-extends : goal.returns-in_err-empty-clause-extends
returns-in_err-empty-clause-extends c =
    subst (λ (ls : List (List (Variable ℕ))). Extends ls (lists_of c.empty.new.self)) c.self.view_is
    (lists-kept c.self.inside.table c.empty.new.self c.empty.ensures.grows)

pub returns-in_err-empty-clause-once : goal.returns-in_err-empty-clause-once
returns-in_err-empty-clause-once c = lists-once c.empty.new.self c.empty.ensures.table

pub returns-clause-ok : goal.returns-clause-ok
returns-clause-ok c = list-get c.empty.new.self _ [] c.in_ok-empty.ensures.ok

pub returns-clause-extends : goal.returns-clause-extends
returns-clause-extends c =
    subst (λ (ls : List (List (Variable ℕ))). Extends ls (lists_of c.empty.new.self)) c.self.view_is
    (lists-kept c.self.inside.table c.empty.new.self c.empty.ensures.grows)

pub returns-clause-once : goal.returns-clause-once
returns-clause-once c = lists-once c.empty.new.self c.empty.ensures.table
