use Rattle.std.proofs.Common.{map}
use Rattle.ot_text.specs.Texts.{hyps_text}
use Rattle.ot_text.specs.Pages.{printed}
use Rattle.ot_text.specs.Gathered.{texts_of}
use Rattle.ot_text.specs.Separated.{hyps_from}
use Rattle.ot_text.proofs.Putting.{Leaves}
use Rattle.ot_text.proofs.hyps.put_hyps.Given as goal

abbrev pub invariant-loop-text : goal.invariant-loop-text
invariant-loop-text l = Leaves (hyps_from l.is_first (map (λ t. t.items) l.text-iterator))
    (hyps_text (texts_of l.texts)) (printed l.initial.page) (printed l.page)
