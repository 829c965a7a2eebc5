use Rattle.std.proofs.Common.{◌+◌, ◌∷◌, [], ◌∙◌, sym, ap, subst, take}
use Rattle.std.proofs.lemmas.List.{map-append}
use Rattle.std.proofs.lemmas.Result.{err_from_is_err_and}
use Rattle.ot_blocks.specs.Answers.{places_in, lists_of}
use Rattle.ot_blocks.proofs.Collecting.{DrawnSoFar, block_drawn, block_refused}
use Rattle.ot_blocks.proofs.structure.graph_of.Goals as goal

pub returns-in_err-imports : goal.returns-in_err-imports
returns-in_err-imports c =
    let p = err_from_is_err_and c.from_residual.result c.from_residual.ensures.1 in
    rw (p.1, p.2)
    (block_refused (places_in c.args.places.now) c.args.blocks.now c.each.block-index c.block-item.result
    (lists_of c.each.graph.items) c.each-test.true c.block-item.is c.each.invariant
    c.in_err-imports.field-0.0 (rw c.as_slice.ensures.value at c.in_err-imports.ensures))

pub each-preserved : goal.each-preserved
each-preserved c =
    let imports = rw c.as_slice.ensures.value at c.in_ok-imports.ensures in
    subst (DrawnSoFar (places_in c.args.places.now) (take (c.each.block-index + 1) c.args.blocks.now))
    (sym (ap lists_of c.in_ok-push.ensures.items
    ∙ map-append (λ v. v.items) c.each.graph.items (c.in_ok-imports.imports ∷ [])))
    (block_drawn (places_in c.args.places.now) c.args.blocks.now c.each.block-index c.block-item.result
    (lists_of c.each.graph.items) c.each-test.true c.block-item.is c.each.invariant
    c.in_ok-imports.imports.items imports.0 imports.1)
