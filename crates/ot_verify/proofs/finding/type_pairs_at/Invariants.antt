use Rattle.std.proofs.Common.{take}
use Rattle.ot_verify.specs.Asking.{AreEach}
use Rattle.ot_verify.specs.Finding.{IsFoundTypePair}
use Rattle.ot_verify.proofs.finding.type_pairs_at.Given as goal

abbrev pub invariant-loop-pair : goal.invariant-loop-pair
invariant-loop-pair l = AreEach (IsFoundTypePair l.nodes l.types) (take l.pair-index l.pairs) l.found.items
