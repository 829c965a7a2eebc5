use Rattle.std.proofs.Common.{◌-◌}
use Rattle.ot_kernel.specs.Candidates.{AreCandidates}
use Rattle.ot_kernel.specs.State.{sequent_at}
use Rattle.ot_kernel.proofs.Seeking.{IsOn}
use Rattle.ot_kernel.proofs.kernel.Kernel.first_of.Given as goal

abbrev pub invariant-loop-place : goal.invariant-loop-place
invariant-loop-place l = (c : AreCandidates l.self l.candidates)
    → IsOn l.self l.candidates (sequent_at l.self l.hyps l.concl) l.fn.part l.end l.place c

abbrev pub decreases-loop-place : goal.decreases-loop-place
decreases-loop-place l = l.end - l.place
