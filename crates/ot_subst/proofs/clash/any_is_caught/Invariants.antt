use Rattle.std.specs.Prelude.{take}
use Rattle.ot_logic.specs.Lists.{IsMember}
use Rattle.ot_term.specs.TermTable.{IsGrownTo}
use Rattle.ot_term.specs.declared.term.VarKey.{VarKey}
use Rattle.ot_subst.specs.Clash.{IsCaught}
use Rattle.ot_subst.proofs.clash.any_is_caught.Given as goal

abbrev pub invariant-loop-x : goal.invariant-loop-x
invariant-loop-x g l = record {
  grown : IsGrownTo 0 (g.N.Nodes.table l.fn.terms) (g.N.Nodes.table l.terms);
  missed : (x : VarKey) → IsMember x (take l.x-index l.xs)
      → ¬ (IsCaught (g.N.Nodes.table l.fn.terms) l.work.subst.now l.v l.w x);
}
