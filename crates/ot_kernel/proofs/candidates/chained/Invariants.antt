use Rattle.ot_kernel.specs.Chains.{AreChainedFrom}
use Rattle.ot_kernel.proofs.candidates.chained.Given as goal

abbrev pub invariant-loop-place : goal.invariant-loop-place
invariant-loop-place l = AreChainedFrom l.place l.parts l.firsts.entries l.nexts.items
