use Rattle.std.proofs.Common.{take}
use Rattle.ot_verify.specs.Asking.{AreEach}
use Rattle.ot_verify.specs.Finding.{IsFoundTermPair}
use Rattle.ot_verify.proofs.finding.term_pairs_at.Given as goal

abbrev pub invariant-loop-pair : goal.invariant-loop-pair
invariant-loop-pair l = AreEach (IsFoundTermPair l.nodes l.types l.terms) (take l.pair-index l.pairs) l.found.items
