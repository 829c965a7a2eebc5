use Rattle.ot_kernel.proofs.NewTypes.{AreVariables}
use Rattle.ot_kernel.proofs.defining.type_variables.Given as goal

abbrev pub invariant-loop-name : goal.invariant-loop-name
invariant-loop-name l = AreVariables l.fn.terms l.terms l.vars l.name-index l.types.items
