use Rattle.std.proofs.Common.{◌≤◌, length}
use Rattle.ot_kernel.proofs.Seeking.{NoneTried}
use Rattle.ot_kernel.proofs.kernel.Kernel.first_within.Given as goal

abbrev pub invariant-loop-h : goal.invariant-loop-h
invariant-loop-h l = (l.best ≤ length l.candidates.theorems.items)
    × NoneTried l.self l.candidates l.hyps l.concl l.class l.h-index l.best
