use Rattle.std.proofs.Common.{◌<◌, Some, List, ℕ, length, map, sym, ap, subst, ◌∙◌}
use Rattle.ot_logic.specs.Table.{Extends}
use Rattle.ot_logic.specs.Trees.{Variable}
use Rattle.ot_logic.specs.NamedTerms.{place}
use Rattle.ot_logic.specs.Naming.{numbers}
use Rattle.ot_shape.specs.Shape.{joined}
use Rattle.ot_lists.specs.Variables.{list_at}
use Rattle.ot_lists.specs.SequenceTable.{sequence_at}
use Rattle.ot_lists.specs.Lists.{variable_at, lists_of}
use Rattle.ot_lists.specs.Pieces.{joined_in}
use Rattle.ot_lists.proofs.Lifting.{list-within, list-get, lists-kept, lists-once}
use Rattle.ot_lists.proofs.JoinLifting.{places-lifted, joined-lifted}
use Rattle.ot_lists.proofs.list.Lists.join.Goals as goal

pub join-requires-clause-f : goal.join-requires-clause-f
join-requires-clause-f c = list-within c.self.inside.table c.args.f
    (subst (λ (ls : List (List (Variable ℕ))). c.args.f < length ls) (sym c.self.view_is) c.requires.f)

pub join-requires-clause-x : goal.join-requires-clause-x
join-requires-clause-x c = list-within c.self.inside.table c.args.x
    (subst (λ (ls : List (List (Variable ℕ))). c.args.x < length ls) (sym c.self.view_is) c.requires.x)

pub returns-in_err-joined-clause-extends : goal.returns-in_err-joined-clause-extends
returns-in_err-joined-clause-extends c =
    subst (λ (ls : List (List (Variable ℕ))). Extends ls (lists_of c.join.new.self)) c.self.view_is
    (lists-kept c.self.inside.table c.join.new.self c.join.ensures.grows)

pub returns-in_err-joined-clause-stays_once : goal.returns-in_err-joined-clause-stays_once
returns-in_err-joined-clause-stays_once c = lists-once c.join.new.self c.join.ensures.table

pub returns-clause-list : goal.returns-clause-list
returns-clause-list c =
    let T = c.self.inside.table in
    let f = list-within T c.args.f
    (subst (λ (ls : List (List (Variable ℕ))). c.args.f < length ls) (sym c.self.view_is) c.requires.f) in
    let x = list-within T c.args.x
    (subst (λ (ls : List (List (Variable ℕ))). c.args.x < length ls) (sym c.self.view_is) c.requires.x) in
    let l = joined_in (sequence_at T c.args.f) (sequence_at T c.args.x) in
    list-get c.join.new.self _ l c.in_ok-joined.ensures.list
    ∙ ap (λ ks. Some (map (variable_at ks) l)) c.join.ensures.grows.keys
    ∙ ap Some (joined-lifted T c.len-count.ensures.table c.args.f c.args.x f x)
    ∙ ap (λ (ls : List (List (Variable ℕ))). Some (joined numbers (list_at ls c.args.f) (list_at ls c.args.x)))
    c.self.view_is

pub returns-clause-places : goal.returns-clause-places
returns-clause-places c =
    let T = c.self.inside.table in
    let f = list-within T c.args.f
    (subst (λ (ls : List (List (Variable ℕ))). c.args.f < length ls) (sym c.self.view_is) c.requires.f) in
    let x = list-within T c.args.x
    (subst (λ (ls : List (List (Variable ℕ))). c.args.x < length ls) (sym c.self.view_is) c.requires.x) in
    c.in_ok-joined.ensures.places ∙ ap Some (places-lifted T c.len-count.ensures.table c.args.f c.args.x f x)
    ∙ ap (λ (ls : List (List (Variable ℕ))). Some (map (place numbers (list_at ls c.args.f)) (list_at ls c.args.x)))
    c.self.view_is

pub returns-clause-extends : goal.returns-clause-extends
returns-clause-extends c =
    subst (λ (ls : List (List (Variable ℕ))). Extends ls (lists_of c.join.new.self)) c.self.view_is
    (lists-kept c.self.inside.table c.join.new.self c.join.ensures.grows)

pub returns-clause-stays_once : goal.returns-clause-stays_once
returns-clause-stays_once c = lists-once c.join.new.self c.join.ensures.table
