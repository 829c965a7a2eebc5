use Rattle.std.proofs.Common.{take}
use Rattle.ot_verify.specs.Asking.{AreEach}
use Rattle.ot_verify.specs.Finding.{IsFoundConstantPair}
use Rattle.ot_verify.proofs.finding.constant_pairs_at.Given as goal

abbrev pub invariant-loop-pair : goal.invariant-loop-pair
invariant-loop-pair l = AreEach (IsFoundConstantPair l.nodes l.types) (take l.pair-index l.pairs) l.found.items
