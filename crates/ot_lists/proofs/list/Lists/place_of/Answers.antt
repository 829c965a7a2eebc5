use Rattle.std.specs.Prelude.{IfOk}
use Rattle.std.proofs.Common.{◌≡◌, ◌<◌, Option, List, ℕ, length, sym, ap, subst, ◌∙◌}
use Rattle.ot_logic.specs.NamedTerms.{place}
use Rattle.ot_logic.specs.Naming.{numbers}
use Rattle.ot_logic.specs.Lists.{IsMember}
use Rattle.ot_logic.specs.Table.{IsInjective}
use Rattle.ot_logic.specs.Trees.{Variable}
use Rattle.ot_lists.specs.Variables.{variable_of, list_at}
use Rattle.ot_lists.specs.SequenceTable.{sequence_at, IsNumberOf}
use Rattle.ot_lists.specs.Lists.{lists_of}
use Rattle.ot_lists.proofs.Seams.{under_at}
use Rattle.ot_lists.proofs.Lifting.{list-within, list-at, list-place, lists-once, key-absent, place-absent}
use Rattle.ot_lists.proofs.list.Lists.place_of.Goals as goal

pub returns-in_err-number-clause-injective : goal.returns-in_err-number-clause-injective
returns-in_err-number-clause-injective c = subst IsInjective c.self.view_is (lists-once c.self.inside.table c.number_of.ensures.table)

pub returns-in-Some-clause-injective : goal.returns-in-Some-clause-injective
returns-in-Some-clause-injective c = subst IsInjective c.self.view_is (lists-once c.self.inside.table c.number_of.ensures.table)

pub returns-in-None-clause-injective : goal.returns-in-None-clause-injective
returns-in-None-clause-injective c = subst IsInjective c.self.view_is (lists-once c.self.inside.table c.number_of.ensures.table)

pub returns-in-Some-clause-place : goal.returns-in-Some-clause-place
returns-in-Some-clause-place c =
    let T = c.self.inside.table in
    let h = list-within T c.args.id
    (subst (λ (ls : List (List (Variable ℕ))). c.args.id < length ls) (sym c.self.view_is) c.requires) in
    let at = subst (IsNumberOf T.keys c.args.v.now) c.in-Some.is c.in_ok-number.ensures.number in
    subst (λ (z : Option ℕ). IfOk c.place_of.result (λ o. o ≡ z))
    (list-place T c.number_of.ensures.table c.args.id h c.args.v.now c.in-Some.number at
    ∙ ap (λ (ls : List (List (Variable ℕ))). place numbers (list_at ls c.args.id) (variable_of c.args.v.now)) c.self.view_is)
    c.place_of.ensures.place

pub returns-in-None-clause-place : goal.returns-in-None-clause-place
returns-in-None-clause-place c =
    let T = c.self.inside.table in
    let h = list-within T c.args.id
    (subst (λ (ls : List (List (Variable ℕ))). c.args.id < length ls) (sym c.self.view_is) c.requires) in
    let none = subst (IsNumberOf T.keys c.args.v.now) c.in-None.is c.in_ok-number.ensures.number in
    place-absent (list_at (lists_of T) c.args.id) (variable_of c.args.v.now)
    (subst (λ vs. ¬ (IsMember (variable_of c.args.v.now) vs)) (sym (list-at T c.args.id h))
    (key-absent T.keys c.args.v.now (sequence_at T c.args.id) none
    (λ x m. under_at T c.number_of.ensures.table c.args.id x h m)))
    ∙ ap (λ (ls : List (List (Variable ℕ))). place numbers (list_at ls c.args.id) (variable_of c.args.v.now)) c.self.view_is
