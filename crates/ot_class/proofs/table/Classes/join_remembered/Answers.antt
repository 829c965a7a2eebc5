use Rattle.std.proofs.Common.{◌≡◌, ◌<◌, [], length, slice_get, map, Some, sym, subst, ◌∙◌, arith}
use Rattle.ot_logic.specs.NamedTerms.{place}
use Rattle.ot_logic.specs.Naming.{numbers}
use Rattle.ot_logic.proofs.TableLemmas.{get_or-Extends}
use Rattle.ot_shape.specs.Shape.{joined}
use Rattle.ot_lists.specs.Variables.{list_at}
use Rattle.ot_class.specs.Class.{ClassTable}
use Rattle.ot_class.specs.Joins.{IsJoin}
use Rattle.ot_class.proofs.Growing.{Stays, stays-grown, stays-forgotten, stays-joined}
use Rattle.ot_class.proofs.table.Classes.join_remembered.Goals as goal
use Rattle.ot_class.proofs.table.Classes.join_remembered.Goals.{In-Some, In_err-joined, In_err-insert, In_ok-insert}

-- what was remembered
known : (c : In-Some) → IsJoin c.self.inside.lists c.self.inside.maps c.args.f c.args.x c.in-Some.joined.now
known c = (c.self.invariant.joins.known (record { f = c.args.f; x = c.args.x }) c.in-Some.joined.now
    (sym c.in-Some.ensures.value)).2

pub returns-in-Some-clause-list : goal.returns-in-Some-clause-list
returns-in-Some-clause-list c =
    subst (λ (t : ClassTable). slice_get t.lists c.in-Some.joined.now.list
    ≡ Some (joined numbers (list_at t.lists c.args.f) (list_at t.lists c.args.x))) c.self.view_is
    (known ((goal.at.returns-in-Some-clause-list c).In-Some)).list

pub returns-in-Some-clause-maps : goal.returns-in-Some-clause-maps
returns-in-Some-clause-maps c =
    subst (λ (t : ClassTable). slice_get t.maps c.in-Some.joined.now.map
    ≡ Some (map (place numbers (list_at t.lists c.args.f)) (list_at t.lists c.args.x))) c.self.view_is
    (known ((goal.at.returns-in-Some-clause-maps c).In-Some)).map_is

-- the lists could not be joined
failed : (c : In_err-joined) → Stays c.args.self.now c.join.new.lists c.join.new.maps c.self.inside.joins.entries
    c.self.inside.shapes.entries
failed c = stays-grown _ _ _ _ c.self.invariant _ c.self.view_is c.join.new.lists c.join.new.maps
    c.join.ensures.lists_extend c.join.ensures.maps_extend c.join.ensures.lists_stay_once
    c.join.ensures.maps_stay_once

pub invariant_of-self : goal.invariant_of-self
invariant_of-self c = (failed ((goal.at.invariant_of-self c).In_err-joined)).sound

pub returns-in_err-joined-clause-shapes : goal.returns-in_err-joined-clause-shapes
returns-in_err-joined-clause-shapes c = (failed ((goal.at.returns-in_err-joined-clause-shapes c).In_err-joined)).shapes

pub returns-in_err-joined-clause-grows : goal.returns-in_err-joined-clause-grows
returns-in_err-joined-clause-grows c = (failed ((goal.at.returns-in_err-joined-clause-grows c).In_err-joined)).grows

pub returns-in_err-joined-clause-once : goal.returns-in_err-joined-clause-once
returns-in_err-joined-clause-once c = (failed ((goal.at.returns-in_err-joined-clause-once c).In_err-joined)).once

-- they were joined, and that could not be remembered
forgotten : (c : In_err-insert) → Stays c.args.self.now c.join.new.lists c.join.new.maps
    c.insert.new.self.entries c.self.inside.shapes.entries
forgotten c = stays-forgotten _ _ _ _ c.self.invariant _ c.self.view_is c.join.new.lists c.join.new.maps
    c.join.ensures.lists_extend c.join.ensures.maps_extend c.join.ensures.lists_stay_once
    c.join.ensures.maps_stay_once c.insert.new.self.entries c.in_err-insert.ensures.err

pub invariant_of-self-in_err-insert : goal.invariant_of-self-in_err-insert
invariant_of-self-in_err-insert c = (forgotten ((goal.at.invariant_of-self-in_err-insert c).In_err-insert)).sound

pub returns-in_err-insert-clause-shapes : goal.returns-in_err-insert-clause-shapes
returns-in_err-insert-clause-shapes c =
    (forgotten ((goal.at.returns-in_err-insert-clause-shapes c).In_err-insert)).shapes

pub returns-in_err-insert-clause-grows : goal.returns-in_err-insert-clause-grows
returns-in_err-insert-clause-grows c =
    (forgotten ((goal.at.returns-in_err-insert-clause-grows c).In_err-insert)).grows

pub returns-in_err-insert-clause-once : goal.returns-in_err-insert-clause-once
returns-in_err-insert-clause-once c =
    (forgotten ((goal.at.returns-in_err-insert-clause-once c).In_err-insert)).once

-- they were joined, and that is remembered
kept : (c : In_ok-insert) → Stays c.args.self.now c.join.new.lists c.join.new.maps c.insert.new.self.entries
    c.self.inside.shapes.entries
kept c =
    let f : c.args.f < length c.self.inside.lists = subst (λ (t : ClassTable). c.args.f < length t.lists)
    (sym c.self.view_is) c.requires.f in
    let x : c.args.x < length c.self.inside.lists = subst (λ (t : ClassTable). c.args.x < length t.lists)
    (sym c.self.view_is) c.requires.x in
    let l = c.join.ensures.lists_extend in
    let left = sym (get_or-Extends c.self.inside.lists c.join.new.lists l c.args.f [] f) in
    let right = sym (get_or-Extends c.self.inside.lists c.join.new.lists l c.args.x [] x) in
    stays-joined _ _ _ _ c.self.invariant _ c.self.view_is c.join.new.lists c.join.new.maps l
    c.join.ensures.maps_extend c.join.ensures.lists_stay_once c.join.ensures.maps_stay_once
    c.insert.new.self.entries (record { f = c.args.f; x = c.args.x })
    (record { map = c.in_ok-joined.joined.map; list = c.in_ok-joined.joined.list }) (omega (arith, f, l.longer))
    (omega (arith, x, l.longer))
    (record {
      list = c.in_ok-joined.ensures.list ∙ (λ i. Some (joined numbers (left i) (right i)));
      map_is = c.in_ok-joined.ensures.places ∙ (λ i. Some (map (place numbers (left i)) (right i)));
    })
    c.in_ok-insert.ensures.updates.0

pub invariant_of-self-2 : goal.invariant_of-self-2
invariant_of-self-2 c = (kept ((goal.at.invariant_of-self-2 c).In_ok-insert)).sound

pub returns-clause-shapes : goal.returns-clause-shapes
returns-clause-shapes c = (kept ((goal.at.returns-clause-shapes c).In_ok-insert)).shapes

pub returns-clause-grows : goal.returns-clause-grows
returns-clause-grows c = (kept ((goal.at.returns-clause-grows c).In_ok-insert)).grows

pub returns-clause-once : goal.returns-clause-once
returns-clause-once c = (kept ((goal.at.returns-clause-once c).In_ok-insert)).once
