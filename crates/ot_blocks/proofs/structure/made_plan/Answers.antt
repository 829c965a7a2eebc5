use Rattle.std.proofs.Common.{◌∙◌, sym, ap, arith}
use Rattle.std.specs.Prelude.{codes, is_some}
use Rattle.std.proofs.lemmas.List.{length-map}
use Rattle.std.proofs.lemmas.Result.{err_from_is_err_and}
use Rattle.ot_theory.specs.Answers.{blocks_of}
use Rattle.ot_blocks.specs.Answers.{places_in, lists_of}
use Rattle.ot_blocks.specs.Structure.{imported_blocks}
use Rattle.ot_blocks.proofs.Placing.{place_there}
use Rattle.ot_blocks.proofs.PlanLaws.{plan_refused, plan_made, order_refused, graph_is_inside, main_is_inside}
use Rattle.ot_blocks.proofs.structure.made_plan.Goals as goal

pub main_place-main-requires : goal.main_place-main-requires
main_place-main-requires c = ap is_some (c.in_ok-places.ensures (codes "main"))
    ∙ place_there (blocks_of c.args.blocks.now) (codes "main") c.requires

pub order_from-requires-clause-inside : goal.order_from-requires-clause-inside
order_from-requires-clause-inside c =
    let drawn = c.in_ok-graph.ensures.1 ∙ sym (ap lists_of c.as_slice.ensures.value) in
    graph_is_inside (blocks_of c.args.blocks.now) (places_in c.in_ok-places.places) c.in_ok-places.ensures
    (lists_of c.as_slice.result.now) drawn c.main_place-main.result c.main_place-main.ensures

pub order_from-requires-clause-main : goal.order_from-requires-clause-main
order_from-requires-clause-main c =
    let drawn = c.in_ok-graph.ensures.1 ∙ sym (ap lists_of c.as_slice.ensures.value) in
    let inside = main_is_inside (blocks_of c.args.blocks.now) (places_in c.in_ok-places.places) c.in_ok-places.ensures
    (lists_of c.as_slice.result.now) drawn c.main_place-main.result c.main_place-main.ensures in
    omega (arith, inside, length-map c.as_slice.result.now (λ v. v.items))

pub returns-in_err-graph : goal.returns-in_err-graph
returns-in_err-graph c =
    let p = err_from_is_err_and c.from_residual-in_err-graph.result c.from_residual-in_err-graph.ensures.1 in
    rw (p.1, p.2)
    (plan_refused (blocks_of c.args.blocks.now) (places_in c.in_ok-places.places) c.in_ok-places.ensures
    c.in_err-graph.field-0.0 c.in_err-graph.ensures)

pub returns-in_err-order : goal.returns-in_err-order
returns-in_err-order c =
    let drawn = c.in_ok-graph.ensures.1 ∙ sym (ap lists_of c.as_slice.ensures.value) in
    let p = err_from_is_err_and c.from_residual-in_err-order.result c.from_residual-in_err-order.ensures.1 in
    rw (p.1, p.2)
    (order_refused (blocks_of c.args.blocks.now) (places_in c.in_ok-places.places) c.in_ok-places.ensures
    (lists_of c.as_slice.result.now) drawn c.main_place-main.result c.main_place-main.ensures
    c.in_err-order.field-0.0 c.in_ok-graph.ensures.0 c.in_err-order.ensures)

pub returns : goal.returns
returns c =
    let drawn = c.in_ok-graph.ensures.1 ∙ sym (ap lists_of c.as_slice.ensures.value) in
    let lists = ap imported_blocks (ap lists_of (c.as_slice-2.ensures.value ∙ sym c.as_slice.ensures.value)) in
    plan_made (blocks_of c.args.blocks.now) (places_in c.in_ok-places.places) c.in_ok-places.ensures
    (lists_of c.as_slice.result.now) drawn c.main_place-main.result c.main_place-main.ensures
    c.in_ok-order.order.items (lists_of c.in_ok-imports.imports.items) c.in_ok-graph.ensures.0 c.in_ok-order.ensures
    (c.in_ok-imports.ensures ∙ lists)
