use Rattle.std.proofs.Common.{◌≡◌, drop}
use Rattle.ot_logic.specs.Hol.{is_free_in_some}
use Rattle.ot_logic.specs.Naming.{numbers}
use Rattle.ot_term.specs.TermTable.{variable_of}
use Rattle.ot_kernel.specs.Numbered.{tms_at}
use Rattle.ot_kernel.proofs.hypotheses.is_free_in_some.Given as goal

abbrev pub invariant-loop-t : goal.invariant-loop-t
invariant-loop-t l =
    is_free_in_some numbers (variable_of l.terms.types l.v) (tms_at l.terms.terms l.among)
    ≡ is_free_in_some numbers (variable_of l.terms.types l.v) (tms_at l.terms.terms (drop l.t-index l.among))
