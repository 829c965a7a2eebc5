use Rattle.std.specs.Option.{is_none}
use Rattle.std.proofs.Common.{◌≡◌, ◌<◌, Some, List, [], ℕ, length, map, sym, ap, subst, ◌∙◌}
use Rattle.std.specs.Prelude.{remove}
use Rattle.std.proofs.lemmas.Option.{slice_get-get_or}
use Rattle.ot_logic.specs.NamedTerms.{place}
use Rattle.ot_logic.specs.Naming.{numbers}
use Rattle.ot_logic.specs.Table.{Extends}
use Rattle.ot_logic.specs.Trees.{Variable}
use Rattle.ot_laws.proofs.Tests.{tells_numbers}
use Rattle.ot_shape.specs.Shape.{without}
use Rattle.ot_shape.proofs.Frees.{place-none, without-absent}
use Rattle.ot_lists.specs.Variables.{variable_of, list_at}
use Rattle.ot_lists.specs.SequenceTable.{sequence_at}
use Rattle.ot_lists.specs.Lists.{variable_at, lists_of}
use Rattle.ot_lists.proofs.Lifting.{list-within, list-get, list-distinct, list-without, place-in, lists-kept, lists-once}
use Rattle.ot_lists.proofs.list.Lists.without.Goals as goal
use Rattle.ot_lists.proofs.list.Lists.without.Goals.{In-Some}

within : (c : In-Some) → c.args.id < length c.self.inside.table.lists
within c = list-within c.self.inside.table c.args.id
    (subst (λ (ls : List (List (Variable ℕ))). c.args.id < length ls) (sym c.self.view_is) c.requires)

-- the place that was found
at : (c : In-Some) → Some c.in-Some.place
    ≡ place numbers (list_at (lists_of c.self.inside.table) c.args.id) (variable_of c.args.v)
at c = sym c.in-Some.is ∙ c.in_ok-place.ensures.place
    ∙ ap (λ (ls : List (List (Variable ℕ))). place numbers (list_at ls c.args.id) (variable_of c.args.v))
    (sym c.self.view_is)

pub without-requires-clause-place : goal.without-requires-clause-place
without-requires-clause-place c =
    let d = (goal.at.without-requires-clause-place c).In-Some in
    place-in c.self.inside.table c.args.id (within d) (variable_of c.args.v) c.in-Some.place (at d)

pub returns-in_err-without-in-Some-clause-extends : goal.returns-in_err-without-in-Some-clause-extends
returns-in_err-without-in-Some-clause-extends c =
    subst (λ (ls : List (List (Variable ℕ))). Extends ls (lists_of c.without.new.self)) c.self.view_is
    (lists-kept c.self.inside.table c.without.new.self c.without.ensures.grows)

pub returns-in_err-without-in-Some-clause-once : goal.returns-in_err-without-in-Some-clause-once
returns-in_err-without-in-Some-clause-once c = lists-once c.without.new.self c.without.ensures.table

pub returns-in_ok-without-in-Some-clause-ok : goal.returns-in_ok-without-in-Some-clause-ok
returns-in_ok-without-in-Some-clause-ok c =
    let d = (goal.at.returns-in_ok-without-in-Some-clause-ok c).In-Some in
    let T = c.self.inside.table in
    list-get c.without.new.self _ _ c.in_ok-without-in-Some.ensures.ok
    ∙ ap (λ ks. Some (map (variable_at ks) (remove (sequence_at T c.args.id) c.in-Some.place))) c.without.ensures.grows.keys
    ∙ ap Some
    (list-without T c.args.id (within d) (variable_of c.args.v) c.in-Some.place
    (list-distinct T c.len-count.ensures.table c.args.id (within d)) (at d))
    ∙ ap (λ (ls : List (List (Variable ℕ))). Some (without numbers (variable_of c.args.v) (list_at ls c.args.id)))
    c.self.view_is

pub returns-in_ok-without-in-Some-clause-extends : goal.returns-in_ok-without-in-Some-clause-extends
returns-in_ok-without-in-Some-clause-extends c =
    subst (λ (ls : List (List (Variable ℕ))). Extends ls (lists_of c.without.new.self)) c.self.view_is
    (lists-kept c.self.inside.table c.without.new.self c.without.ensures.grows)

pub returns-in_ok-without-in-Some-clause-once : goal.returns-in_ok-without-in-Some-clause-once
returns-in_ok-without-in-Some-clause-once c = lists-once c.without.new.self c.without.ensures.table

pub returns-in-None-clause-ok : goal.returns-in-None-clause-ok
returns-in-None-clause-ok c =
    let vs = list_at c.args.self.now c.args.id in
    let v = variable_of c.args.v in
    let none = place-none numbers tells_numbers vs v (ap is_none (sym c.in_ok-place.ensures.place ∙ c.in-None.is)) in
    slice_get-get_or c.args.self.now c.args.id [] c.requires
    ∙ ap Some (sym (without-absent numbers tells_numbers v vs none))
