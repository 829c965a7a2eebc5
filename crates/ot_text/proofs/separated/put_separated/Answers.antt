use Rattle.std.proofs.Common.{◌∙◌, ap, map, arith}
use Rattle.std.proofs.Math.ListN.{drop_of_length-le}
use Rattle.ot_logic.proofs.Elements.{drop-item}
use Rattle.ot_text.specs.Separated.{separated_from}
use Rattle.ot_text.specs.Pages.{printed}
use Rattle.ot_text.proofs.Putting.{then, leaves-more, leaves-all, nothing}
use Rattle.ot_text.proofs.Separating.{separated-first, separated-none}
use Rattle.ot_text.proofs.separated.put_separated.Goals as goal

pub loop-item-preserved : goal.loop-item-preserved
loop-item-preserved g c =
    let text = g.T.Printable.text c.args.table.now in
    leaves-more c.loop-item.invariant
    (ap (λ xs. separated_from c.loop-item.is_first c.args.separator.now (map text xs))
    (drop-item c.args.items.now c.loop-item.item-index c.item-item.result c.loop-item-test.true c.item-item.is)
    ∙ separated-first c.loop-item.is_first c.args.separator.now _ _)
    (then c.separate.ensures c.put.ensures)

pub returns : goal.returns
returns g c =
    leaves-all c.loop-item.invariant
    (ap (λ xs. separated_from c.loop-item.is_first c.args.separator.now (map (g.T.Printable.text c.args.table.now) xs))
    (drop_of_length-le c.args.items.now (omega arith)) ∙ separated-none c.loop-item.is_first c.args.separator.now)
    (nothing (printed c.loop-item.page))
