use Rattle.std.specs.Prelude.{IfSome}
use Rattle.std.specs.List.{All}
use Rattle.std.proofs.Common.{◌≡◌, ◌<◌, length, drop}
use mathlib.Core.List.{reverse}
use Rattle.ot_logic.specs.Hol.{once_each}
use Rattle.ot_logic.specs.Naming.{numbers}
use Rattle.ot_kernel.specs.Numbered.{tms_at}
use Rattle.ot_kernel.specs.Classes.{AreClassesOf}
use Rattle.ot_kernel.proofs.hypotheses.once_each.Given as goal

abbrev pub invariant-loop-i : goal.invariant-loop-i
invariant-loop-i l = record {
  made : tms_at l.terms.terms (reverse l.once.items) ≡ once_each numbers (tms_at l.terms.terms (drop l.i l.g));
  classes : IfSome l.later (λ s. AreClassesOf l.terms (tms_at l.terms.terms (drop l.i l.g)) s.keys);
  inside : All (λ i. i < length l.terms.terms) l.once.items;
}
