use Rattle.std.proofs.Common.{take}
use Rattle.ot_kernel.specs.Candidates.{HaveParts}
use Rattle.ot_kernel.proofs.kernel.Kernel.parts_of.Given as goal

abbrev pub invariant-loop-th : goal.invariant-loop-th
invariant-loop-th l = HaveParts l.self (take l.th-index l.theorems) l.parts.items
