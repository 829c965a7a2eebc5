use Rattle.std.proofs.Common.{take}
use Rattle.ot_trace.proofs.TallyLemmas.{Tallies, used_so_far}
use Rattle.ot_trace.proofs.counting.uses.Given as goal

abbrev pub invariant-loop-index : goal.invariant-loop-index
invariant-loop-index l = Tallies l.trace (used_so_far l.trace l.roots (take l.index l.marks)) l.counts.items
