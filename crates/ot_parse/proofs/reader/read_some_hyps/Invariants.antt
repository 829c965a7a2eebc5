use Rattle.std.proofs.Common.{length}
use Rattle.ot_parse.specs.ReadLines.{kept_of}
use Rattle.ot_parse.proofs.WholeLines.{AreSoFar}
use Rattle.ot_parse.proofs.reader.read_some_hyps.Given as goal

abbrev pub invariant-hyps : goal.invariant-hyps
invariant-hyps l = AreSoFar l.notation l.line (kept_of l.hyps) l.rest

abbrev pub decreases-hyps : goal.decreases-hyps
decreases-hyps l = length l.rest
