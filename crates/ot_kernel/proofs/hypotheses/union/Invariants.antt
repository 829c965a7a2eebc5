use Rattle.std.specs.Prelude.{IfSome}
use Rattle.std.specs.List.{All}
use Rattle.std.proofs.Common.{◌≡◌, ◌<◌, ◌++◌, length, drop}
use Rattle.ot_logic.specs.Hol.{lacking, union}
use Rattle.ot_logic.specs.Naming.{numbers}
use Rattle.ot_kernel.specs.Numbered.{tms_at}
use Rattle.ot_kernel.specs.Classes.{AreClassesOf}
use Rattle.ot_kernel.proofs.hypotheses.union.Given as goal

abbrev pub invariant-loop-t : goal.invariant-loop-t
invariant-loop-t l = record {
  made : tms_at l.terms.terms l.all.items ++ lacking numbers (tms_at l.terms.terms l.g)
      (tms_at l.terms.terms (drop l.t-index l.h)) ≡ union numbers (tms_at l.terms.terms l.g)
      (tms_at l.terms.terms l.h);
  classes : IfSome l.classes (λ s. AreClassesOf l.terms (tms_at l.terms.terms l.g) s.keys);
  inside : All (λ i. i < length l.terms.terms) l.all.items;
}
