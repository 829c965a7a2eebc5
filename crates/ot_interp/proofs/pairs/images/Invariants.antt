use Rattle.std.proofs.Common.{◌≡◌, nat_eq, map, ◌++◌}
use Rattle.std.specs.List.{IsDistinct}
use Rattle.std.specs.Map.{keys_of}
use Rattle.ot_logic.specs.Naming.{numbers}
use Rattle.ot_interp.specs.Interpretation.{renamed}
use Rattle.ot_interp.proofs.pairs.images.Given as goal

abbrev pub invariant-loop-from : goal.invariant-loop-from
invariant-loop-from l = record {
  pairs : l.both.entries ++ map (λ p. (p.0, renamed numbers l.outer.entries p.1)) l.from-iterator
      ≡ map (λ p. (p.0, renamed numbers l.outer.entries p.1)) l.inner.entries;
  distinct : IsDistinct nat_eq (keys_of l.inner.entries);
}
