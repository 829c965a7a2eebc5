use Rattle.std.proofs.Common.{sym, ◌∙◌, ap}
use Rattle.std.specs.Prelude.{Err, codes, map}
use Rattle.ot_text.specs.Texts.{ascending, sequent_text}
use Rattle.ot_text.proofs.Putting.{same-text, gives-up}
use Rattle.ot_uses.specs.Placing.{picked}
use Rattle.ot_uses.specs.Texts.{counted_text}
use Rattle.ot_uses.proofs.Lines.{counted-bytes}
use Rattle.ot_uses.proofs.text.put_assumptions.Goals as goal

pub returns-in-Ok : goal.returns-in-Ok
returns-in-Ok c = same-text (ap (counted_text (codes "assumptions")) c.in-Ok.ensures.ok) c.put_texts.ensures

pub returns-in-Err : goal.returns-in-Err
returns-in-Err c =
    gives-up _ _ _ c.room.result c.in-Err.fault c.stop.ensures (sym c.is_stopped.ensures ∙ c.if-is_stopped.false)
    c.room.ensures
    (λ p. counted-bytes c.room.result (codes "assumptions")
    (ascending (map sequent_text (picked c.args.kernel.now.assumptions c.args.places.now)))
    (c.in-Err.ensures.too_large (λ j. Err (p j))))
