use Rattle.std.specs.Prelude.{take}
use Rattle.ot_subst.specs.Clash.{IsFreeInSome}
use Rattle.ot_subst.proofs.clash.is_free_in_pairs.Given as goal

abbrev pub invariant-loop-pair : goal.invariant-loop-pair
invariant-loop-pair g l = ¬ (IsFreeInSome (g.N.Nodes.table l.terms) (take l.pair-index l.pairs) l.w)
