use Rattle.std.specs.Prelude.{IfSome}
use Rattle.std.proofs.Common.{◌≡◌, drop}
use Rattle.ot_logic.specs.Hol.{all_in}
use Rattle.ot_logic.specs.Naming.{numbers}
use Rattle.ot_kernel.specs.Numbered.{tms_at}
use Rattle.ot_kernel.specs.Classes.{AreClassesOf}
use Rattle.ot_kernel.proofs.hypotheses.has_terms.Given as goal

abbrev pub invariant-loop-t : goal.invariant-loop-t
invariant-loop-t l = record {
  tested : all_in numbers (tms_at l.terms.terms l.ts) (tms_at l.terms.terms l.among)
      ≡ all_in numbers (tms_at l.terms.terms (drop l.t-index l.ts)) (tms_at l.terms.terms l.among);
  classes : IfSome l.classes (λ s. AreClassesOf l.terms (tms_at l.terms.terms l.among) s.keys);
}
