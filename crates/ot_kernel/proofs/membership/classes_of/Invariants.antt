use Rattle.ot_kernel.proofs.ByClass.{AreClassesBefore}
use Rattle.ot_kernel.proofs.membership.classes_of.Given as goal

abbrev pub invariant-loop-t : goal.invariant-loop-t
invariant-loop-t l = AreClassesBefore l.terms l.among l.t-index l.classes.keys
