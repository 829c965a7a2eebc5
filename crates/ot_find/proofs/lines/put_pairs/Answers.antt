use Rattle.std.proofs.Common.{sym, ◌∙◌, ap, map}
use Rattle.std.specs.Prelude.{Err}
use Rattle.ot_text.specs.Texts.{ascending}
use Rattle.ot_text.proofs.Putting.{same-text, gives-up}
use Rattle.ot_text.specs.Sections.{indented_text}
use Rattle.ot_text.proofs.SectionPieces.{indented-room}
use Rattle.ot_find.proofs.lines.put_pairs.Goals as goal

pub returns-in-Ok : goal.returns-in-Ok
returns-in-Ok g c = same-text (ap indented_text c.in-Ok.ensures.ok) c.put_indented.ensures

pub returns-in-Err : goal.returns-in-Err
returns-in-Err g c =
    gives-up _ _ _ c.room.result c.in-Err.fault c.stop.ensures (sym c.is_stopped.ensures ∙ c.if-is_stopped.false)
    c.room.ensures
    (λ p. indented-room c.room.result (ascending (map (g.T.Printable.text c.args.table.now) c.args.pairs.now))
    (c.in-Err.ensures.too_large (λ j. Err (p j))))
