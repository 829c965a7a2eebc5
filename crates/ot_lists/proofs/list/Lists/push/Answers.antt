use Rattle.std.proofs.Common.{◌<◌, ℕ, List, length, sym, ap, subst, ◌∙◌}
use Rattle.ot_logic.specs.Lists.{IsMember}
use Rattle.ot_logic.specs.Table.{Extends}
use Rattle.ot_logic.specs.Trees.{Variable}
use Rattle.ot_logic.proofs.TableLemmas.{Extends-trans}
use Rattle.ot_lists.specs.Variables.{variable_of, list_at}
use Rattle.ot_lists.specs.Lists.{lists_of}
use Rattle.std.proofs.Common.{◌++◌, ◌∷◌, [], Some}
use Rattle.std.proofs.lemmas.Option.{slice_get_within}
use Rattle.ot_lists.proofs.Lifting.{lists-kept, lists-once}
use Rattle.ot_lists.proofs.Pushing.{numbered-extends, single-in, push-distinct, push-is}
use Rattle.ot_lists.proofs.list.Lists.push.Goals as goal
use Rattle.ot_lists.proofs.list.Lists.push.Goals.{After-number, After-single, After-append}

-- the lists after the variable has a number, after it has a list of its own, and at the end
numbered : (c : After-number) → Extends (lists_of c.self.inside.table) (lists_of c.number.new.self)
numbered c = numbered-extends c.self.inside.table c.number.new.self c.len-count.ensures.table c.number.ensures.keys
    c.number.ensures.lists

alone : (c : After-single) → Extends (lists_of c.self.inside.table) (lists_of c.single.new.self)
alone c = Extends-trans
    (numbered-extends c.self.inside.table c.number.new.self c.len-count.ensures.table c.number.ensures.keys
    c.number.ensures.lists)
    (lists-kept c.number.new.self c.single.new.self c.single.ensures.grows)

pushed : (c : After-append) → Extends (lists_of c.self.inside.table) (lists_of c.append.new.self)
pushed c = Extends-trans
    (Extends-trans
    (numbered-extends c.self.inside.table c.number.new.self c.len-count.ensures.table c.number.ensures.keys
    c.number.ensures.lists)
    (lists-kept c.number.new.self c.single.new.self c.single.ensures.grows))
    (lists-kept c.single.new.self c.append.new.self c.append.ensures.grows)

pub single-requires : goal.single-requires
single-requires c = slice_get_within c.number.new.self.keys c.in_ok-number.number _ c.in_ok-number.ensures.ok

pub append-requires-clause-behind : goal.append-requires-clause-behind
append-requires-clause-behind c =
    single-in c.self.inside.table c.number.new.self c.len-count.ensures.table c.number.ensures.keys
    c.number.ensures.lists c.single.new.self c.args.last c.in_ok-number.number c.args.front c.in_ok-single.single
    c.number.ensures.table c.in_ok-number.ensures.ok c.single.ensures.grows c.in_ok-single.ensures.ok
    (subst (λ (ls : List (List (Variable ℕ))). c.args.front < length ls) (sym c.self.view_is) c.requires.front)

pub append-requires-clause-distinct : goal.append-requires-clause-distinct
append-requires-clause-distinct c =
    push-distinct c.self.inside.table c.number.new.self c.len-count.ensures.table c.number.ensures.keys
    c.number.ensures.lists c.single.new.self c.args.last c.in_ok-number.number c.args.front c.in_ok-single.single
    c.number.ensures.table c.in_ok-number.ensures.ok c.single.ensures.grows c.in_ok-single.ensures.ok
    (subst (λ (ls : List (List (Variable ℕ))). c.args.front < length ls) (sym c.self.view_is) c.requires.front)
    (subst (λ (ls : List (List (Variable ℕ))). ¬ (IsMember (variable_of c.args.last) (list_at ls c.args.front)))
    (sym c.self.view_is) c.requires.new)

pub returns-in_err-number-clause-extends : goal.returns-in_err-number-clause-extends
returns-in_err-number-clause-extends c =
    subst (λ (ls : List (List (Variable ℕ))). Extends ls (lists_of c.number.new.self)) c.self.view_is
    (numbered ((goal.at.returns-in_err-number-clause-extends c).After-number))

pub returns-in_err-number-clause-once : goal.returns-in_err-number-clause-once
returns-in_err-number-clause-once c = lists-once c.number.new.self c.number.ensures.table

pub returns-in_err-single-clause-extends : goal.returns-in_err-single-clause-extends
returns-in_err-single-clause-extends c =
    subst (λ (ls : List (List (Variable ℕ))). Extends ls (lists_of c.single.new.self)) c.self.view_is
    (alone ((goal.at.returns-in_err-single-clause-extends c).After-single))

pub returns-in_err-single-clause-once : goal.returns-in_err-single-clause-once
returns-in_err-single-clause-once c = lists-once c.single.new.self c.single.ensures.table

pub returns-in_err-append-clause-extends : goal.returns-in_err-append-clause-extends
returns-in_err-append-clause-extends c =
    subst (λ (ls : List (List (Variable ℕ))). Extends ls (lists_of c.append.new.self)) c.self.view_is
    (pushed ((goal.at.returns-in_err-append-clause-extends c).After-append))

pub returns-in_err-append-clause-once : goal.returns-in_err-append-clause-once
returns-in_err-append-clause-once c = lists-once c.append.new.self c.append.ensures.table

pub returns-clause-ok : goal.returns-clause-ok
returns-clause-ok c =
    push-is c.self.inside.table c.number.new.self c.len-count.ensures.table c.number.ensures.keys
    c.number.ensures.lists c.single.new.self c.args.last c.in_ok-number.number c.args.front c.in_ok-single.single
    c.number.ensures.table c.in_ok-number.ensures.ok c.single.ensures.grows c.in_ok-single.ensures.ok
    (subst (λ (ls : List (List (Variable ℕ))). c.args.front < length ls) (sym c.self.view_is) c.requires.front)
    c.append.new.self _ c.append.ensures.grows c.in_ok-append.ensures.ok
    ∙ ap (λ (ls : List (List (Variable ℕ))). Some (list_at ls c.args.front ++ variable_of c.args.last ∷ []))
    c.self.view_is

pub returns-clause-extends : goal.returns-clause-extends
returns-clause-extends c =
    subst (λ (ls : List (List (Variable ℕ))). Extends ls (lists_of c.append.new.self)) c.self.view_is
    (pushed ((goal.at.returns-clause-extends c).After-append))

pub returns-clause-once : goal.returns-clause-once
returns-clause-once c = lists-once c.append.new.self c.append.ensures.table
