use Rattle.ot_text.specs.Pages.{printed}
use Rattle.ot_text.proofs.Putting.{Puts}
use Rattle.ot_uses.proofs.Picking.{lines_at}
use Rattle.ot_uses.proofs.text.put_items.Given as goal

abbrev pub invariant-loop-place : goal.invariant-loop-place
invariant-loop-place g l =
    Puts (lines_at (g.T.Printable.text l.table) l.items) l.places l.place-index (printed l.initial.page)
    (printed l.page)
