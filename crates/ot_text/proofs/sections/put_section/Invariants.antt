use Rattle.std.proofs.Common.{map}
use Rattle.ot_text.specs.Sections.{items_text}
use Rattle.ot_text.specs.Pages.{printed}
use Rattle.ot_text.proofs.Putting.{Puts}
use Rattle.ot_text.proofs.sections.put_section.Given as goal

abbrev pub invariant-loop-item : goal.invariant-loop-item
invariant-loop-item g l = Puts (λ xs. items_text (map (g.T.Printable.text l.table) xs)) l.items l.item-index
    (printed l.initial.page) (printed l.page)
