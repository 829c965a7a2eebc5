use Rattle.std.proofs.Common.{drop}
use Rattle.ot_kernel.specs.Definitions.{pairs_at}
use Rattle.ot_text.specs.Sections.{pairs_text}
use Rattle.ot_text.specs.Pages.{printed}
use Rattle.ot_text.proofs.Putting.{Leaves}
use Rattle.ot_print.proofs.Separating.{pairs_from}
use Rattle.ot_print.proofs.definitions.put_pairs.Given as goal

abbrev pub invariant-loop-i : goal.invariant-loop-i
invariant-loop-i l = Leaves (pairs_from l.is_first (pairs_at l.kernel (drop l.i l.names) (drop l.i l.vars)))
    (pairs_text (pairs_at l.kernel l.names l.vars)) (printed l.initial.page) (printed l.page)
