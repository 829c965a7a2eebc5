use Rattle.std.proofs.Common.{◌∙◌, ◌++◌, ◌∷◌, [], sym, ap}
use Rattle.ot_blocks.proofs.Collecting.{map_more}
use Rattle.ot_link.specs.Holding.{given_to}
use Rattle.ot_link.proofs.exports.given_to.Goals as goal

pub each-preserved : goal.each-preserved
each-preserved c =
    c.in_ok-push.ensures.items
    ∙ ap (λ xs. xs ++ given_to c.export-item.result ∷ []) c.each.invariant
    ∙ sym (map_more given_to c.args.imports.now c.each.export-index c.export-item.result c.export-item.result
    c.each-test.true c.export-item.is)
