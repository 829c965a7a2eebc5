use Rattle.std.proofs.Common.{take}
use Rattle.ot_define.specs.Given.{Keeps}
use Rattle.ot_define.proofs.lists.all_given.Given as goal

abbrev pub invariant-loop-hyp : goal.invariant-loop-hyp
invariant-loop-hyp l = Keeps l.terms.types l.terms.terms (take l.hyp-index l.hyps) l.all.entries
