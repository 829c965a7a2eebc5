use Rattle.std.proofs.Common.{Err, sym, ap, ◌∙◌, map}
use Rattle.ot_text.specs.Texts.{ascending, hyps_text}
use Rattle.ot_text.proofs.Putting.{same-text, gives-up}
use Rattle.ot_text.proofs.Gathering.{hyps-room}
use Rattle.ot_text.proofs.hyps.put_hypotheses.Goals as goal

pub returns-in-Ok : goal.returns-in-Ok
returns-in-Ok g c = same-text (ap hyps_text c.in-Ok.ensures.ok) c.put_hyps.ensures

pub returns-in-Err : goal.returns-in-Err
returns-in-Err g c =
    gives-up _ _ _ c.room.result c.in-Err.fault c.stop.ensures (sym c.is_stopped.ensures ∙ c.if-is_stopped.false)
    c.room.ensures
    (λ p. hyps-room c.room.result (ascending (map (g.T.Printable.text c.args.table.now) c.args.hyps.now))
    (c.in-Err.ensures.too_large (λ j. Err (p j))))
