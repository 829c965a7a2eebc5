use Rattle.std.proofs.Common.{sym, arith, ◌∙◌}
use Rattle.std.proofs.lemmas.List.{length-map}
use Rattle.ot_text.specs.Pages.{printed}
use Rattle.ot_text.proofs.Putting.{then, same-text, puts-all, nothing}
use Rattle.ot_uses.specs.Placing.{picked}
use Rattle.ot_uses.proofs.Lines.{counted-pieces}
use Rattle.ot_uses.proofs.Picking.{lines_at, lines-more, picked-long}
use Rattle.ot_uses.proofs.text.put_items.Goals as goal

pub loop-place-preserved : goal.loop-place-preserved
loop-place-preserved g c =
    lines-more (g.T.Printable.text c.args.table.now) c.args.items.now
    c.args.places.now c.loop-place.place-index c.index-items-place.result _ _ _
    c.loop-place-test.true (c.requires.places c.loop-place.place-index 0 c.loop-place-test.true)
    c.index-items-place.is
    c.loop-place.invariant (then (then c.put.ensures c.put-in-loop-place.ensures) c.put-in-loop-place-2.ensures)

pub returns : goal.returns
returns g c =
    same-text (counted-pieces _ _ _ (sym (length-map
    (picked c.args.items.now c.args.places.now) (g.T.Printable.text c.args.table.now)
    ∙ picked-long c.args.items.now c.args.places.now c.requires.places)))
    (then c.put_count.ensures
    (puts-all (lines_at (g.T.Printable.text c.args.table.now) c.args.items.now) c.args.places.now
    c.loop-place.place-index _ _ _ (omega arith) c.loop-place.invariant (nothing (printed c.loop-place.page))))
