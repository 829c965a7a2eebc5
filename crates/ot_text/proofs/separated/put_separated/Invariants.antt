use Rattle.std.proofs.Common.{map, drop}
use Rattle.ot_text.specs.Separated.{separated, separated_from}
use Rattle.ot_text.specs.Pages.{printed}
use Rattle.ot_text.proofs.Putting.{Leaves}
use Rattle.ot_text.proofs.separated.put_separated.Given as goal

abbrev pub invariant-loop-item : goal.invariant-loop-item
invariant-loop-item g l =
    Leaves (separated_from l.is_first l.separator (map (g.T.Printable.text l.table) (drop l.item-index l.items)))
    (separated l.separator (map (g.T.Printable.text l.table) l.items)) (printed l.initial.page) (printed l.page)
