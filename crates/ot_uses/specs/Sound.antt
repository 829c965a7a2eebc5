-- The law that a lawful run is sound.
use Rattle.std.specs.Prelude.{map}
use Rattle.std.specs.List.{All}
use Rattle.ot_logic.specs.Names.{Name}
use Rattle.ot_logic.specs.Naming.{names}
use Rattle.ot_logic.specs.Trees.{Sequent}
use Rattle.ot_logic.specs.Hol.{IsSequent, Accepted}
use Rattle.ot_laws.specs.Theorem.{IsTheorem}
use Rattle.ot_trace.specs.Origins.{Origin}
use Rattle.ot_machine.specs.Objects.{theorem}
use Rattle.ot_machine.specs.States.{RunState}
use Rattle.ot_machine.specs.Rows.{definitions_of}
use Rattle.ot_machine.specs.Lawful.{Fits, IsLawfulRun, run_basis}

-- the assumptions are of propositions alone, the definitions are accepted over them, and each sequent that is the value
-- of an origin that rests on the run is derivable from the assumptions under the definitions
pub record IsSoundRun (IsNamed : Name → Type 0) (r : RunState) : Type 0 where
  pub assumptions : All (IsSequent names) (map (λ g. g.sequent) r.assumptions)
  pub accepted : Accepted names (map (λ g. g.sequent) r.assumptions) (definitions_of r.definitions)
  pub theorems : (o : Origin Name) (q : Sequent Name) → Fits (run_basis IsNamed r) o (theorem q)
      → IsTheorem names (map (λ g. g.sequent) r.assumptions) (definitions_of r.definitions) q

-- so it is with each lawful run, as the stated machine leaves it
abbrev pub LawfulIsSound : (Name → Type 0) → Type 0
LawfulIsSound IsNamed = (r : RunState) → IsLawfulRun IsNamed r → IsSoundRun IsNamed r
