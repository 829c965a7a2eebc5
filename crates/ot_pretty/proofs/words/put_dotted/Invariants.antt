use Rattle.std.proofs.Common.{map, drop}
use Rattle.ot_forms.specs.Words.{dotted}
use Rattle.ot_text.specs.Pages.{printed}
use Rattle.ot_text.proofs.Putting.{Leaves}
use Rattle.ot_pretty.proofs.DottedWords.{bytes_of, dotted_from}
use Rattle.ot_pretty.proofs.words.put_dotted.Given as goal

abbrev pub invariant-loop-component : goal.invariant-loop-component
invariant-loop-component l = Leaves (dotted_from l.is_first (map bytes_of (drop l.component-index l.components)))
    (dotted l.name) (printed l.initial.page) (printed l.page)
