use Rattle.std.proofs.Common.{map, sym, arith}
use Rattle.std.proofs.lemmas.List.{length-map}
use Rattle.ot_text.specs.Sections.{items_text}
use Rattle.ot_text.specs.Pages.{printed}
use Rattle.ot_text.proofs.Putting.{then, same-text, puts-all, nothing}
use Rattle.ot_text.proofs.SectionPieces.{items-more, section-pieces}
use Rattle.ot_text.proofs.sections.put_section.Goals as goal

pub loop-item-preserved : goal.loop-item-preserved
loop-item-preserved g c =
    items-more (g.T.Printable.text c.args.table.now) c.args.items.now c.loop-item.item-index c.item-item.result _ _ _
    c.loop-item-test.true c.item-item.is
    c.loop-item.invariant (then (then c.put.ensures c.put-in-loop-item.ensures) c.put-in-loop-item-2.ensures)

pub returns : goal.returns
returns g c =
    same-text
    (section-pieces _ _ _ _ c.if-not-is_asked.false
    (sym (length-map c.args.items.now (g.T.Printable.text c.args.table.now))))
    (then c.put_title.ensures
    (puts-all (λ xs. items_text (map (g.T.Printable.text c.args.table.now) xs)) c.args.items.now
    c.loop-item.item-index _ _ _ (omega arith) c.loop-item.invariant (nothing (printed c.loop-item.page))))
