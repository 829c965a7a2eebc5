-- The law that what a theorem rests on suffices for it.
use Rattle.std.specs.List.{All}
use Rattle.ot_logic.specs.Names.{Name}
use Rattle.ot_logic.specs.Naming.{names}
use Rattle.ot_logic.specs.Hol.{IsSequent, Accepted}
use Rattle.ot_laws.specs.Theorem.{IsTheorem}
use Rattle.ot_machine.specs.States.{Export, RunState}
use Rattle.ot_machine.specs.Lawful.{IsLawfulRun, IsLawfulExport, run_basis}
use Rattle.ot_uses.specs.Used.{Support, support_of}

-- its assumptions are of propositions alone, its definitions are accepted over them, and it is derivable from its
-- assumptions under its definitions
pub record IsSupported (s : Support) : Type 0 where
  pub assumptions : All (IsSequent names) s.assumptions
  pub accepted : Accepted names s.assumptions s.definitions
  pub theorem : IsTheorem names s.assumptions s.definitions s.theorem

-- so it is with each lawful export of a lawful run
abbrev pub UsesSuffice : (Name → Type 0) → Type 0
UsesSuffice IsNamed =
    (r : RunState) → IsLawfulRun IsNamed r → (e : Export) → IsLawfulExport (run_basis IsNamed r) e
    → IsSupported (support_of r e)
