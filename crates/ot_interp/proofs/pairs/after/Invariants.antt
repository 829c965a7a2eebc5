use Rattle.std.proofs.Common.{◌≡◌, nat_eq, ◌++◌}
use Rattle.std.specs.List.{IsDistinct}
use Rattle.std.specs.Map.{keys_of}
use Rattle.ot_logic.specs.Naming.{numbers}
use Rattle.ot_interp.specs.Interpretation.{after_pairs}
use Rattle.ot_interp.proofs.Building.{missing}
use Rattle.ot_interp.proofs.pairs.after.Given as goal

abbrev pub invariant-loop-from : goal.invariant-loop-from
invariant-loop-from l = record {
  pairs : l.both.entries ++ missing l.both.entries l.from-iterator
      ≡ after_pairs numbers l.inner.entries l.outer.entries;
  distinct : IsDistinct nat_eq (keys_of l.from-iterator);
}
