use Rattle.std.proofs.Common.{Err, sym, ◌∙◌, map}
use Rattle.ot_text.specs.Texts.{ascending}
use Rattle.ot_text.specs.Sections.{section_text}
use Rattle.ot_text.proofs.Putting.{same-text, gives-up}
use Rattle.ot_text.proofs.SectionPieces.{section-bytes}
use Rattle.ot_text.proofs.sections.put_sorted_section.Goals as goal

pub returns-in-Ok : goal.returns-in-Ok
returns-in-Ok g c =
    same-text (λ j. section_text (sym c.if-not-is_asked.false j) c.args.title.now (c.in-Ok.ensures.ok j))
    c.put_texts.ensures

pub returns-in-Err : goal.returns-in-Err
returns-in-Err g c =
    gives-up _ _ _ c.room.result c.in-Err.fault c.stop.ensures (sym c.is_stopped.ensures ∙ c.if-is_stopped.false)
    c.room.ensures
    (λ p. section-bytes c.room.result c.args.is_asked c.args.title.now
    (ascending (map (g.T.Printable.text c.args.table.now) c.args.items.now)) c.if-not-is_asked.false
    (c.in-Err.ensures.too_large (λ j. Err (p j))))
