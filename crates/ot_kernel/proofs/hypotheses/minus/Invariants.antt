use Rattle.std.specs.List.{All}
use Rattle.std.proofs.Common.{◌≡◌, ◌<◌, ◌++◌, length, drop}
use Rattle.ot_logic.specs.Hol.{minus}
use Rattle.ot_logic.specs.Naming.{numbers}
use Rattle.ot_kernel.specs.Numbered.{tm_at, tms_at}
use Rattle.ot_kernel.proofs.hypotheses.minus.Given as goal

abbrev pub invariant-loop-u : goal.invariant-loop-u
invariant-loop-u l = record {
  made : tms_at l.terms.terms l.left.items ++ minus numbers (tm_at l.terms.terms l.t)
      (tms_at l.terms.terms (drop l.u-index l.g)) ≡ minus numbers (tm_at l.terms.terms l.t)
      (tms_at l.terms.terms l.g);
  inside : All (λ i. i < length l.terms.terms) l.left.items;
}
