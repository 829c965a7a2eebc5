-- Sequents whose terms are well typed.
use Rattle.std.specs.List.{All}
use Rattle.ot_logic.specs.Names.{Name}
use Rattle.ot_logic.specs.Naming.{names}
use Rattle.ot_logic.specs.Trees.{Sequent}
use Rattle.ot_logic.specs.Hol.{IsWellTyped}

pub record AreWellTyped (q : Sequent Name) : Type 0 where
  pub hyps : All (IsWellTyped names) q.hyps
  pub concl : IsWellTyped names q.concl
