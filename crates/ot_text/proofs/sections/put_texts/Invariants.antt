use Rattle.std.proofs.Common.{map}
use Rattle.ot_text.specs.Sections.{items_text}
use Rattle.ot_text.specs.Pages.{printed}
use Rattle.ot_text.specs.Gathered.{texts_of}
use Rattle.ot_text.proofs.Putting.{Leaves}
use Rattle.ot_text.proofs.sections.put_texts.Given as goal

abbrev pub invariant-loop-text : goal.invariant-loop-text
invariant-loop-text l = Leaves (items_text (map (λ t. t.items) l.text-iterator)) (items_text (texts_of l.texts))
    (printed l.initial.page) (printed l.page)
