use Rattle.std.proofs.Common.{length}
use Rattle.ot_kernel.proofs.PutConstants.{PutsConstants}
use Rattle.ot_kernel.proofs.defining.constants.Given as goal

abbrev pub invariant-loop-name : goal.invariant-loop-name
invariant-loop-name l = PutsConstants l.fn.terms l.terms l.cs l.vars (length l.yielded) l.s
