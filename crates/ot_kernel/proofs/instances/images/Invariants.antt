use Rattle.ot_kernel.proofs.Substituting.{AreImages}
use Rattle.ot_kernel.proofs.instances.images.Given as goal

abbrev pub invariant-loop-id : goal.invariant-loop-id
invariant-loop-id l = AreImages l.fn.names l.names l.fn.terms l.terms l.s l.ids l.id-index l.images.items
