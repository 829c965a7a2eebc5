-- A theory file before its blocks run.
use Rattle.std.specs.Prelude.{ℕ, List, Result, Ok, Err, length, nat_le}
use Rattle.ot_logic.specs.Answers.{◌>>=◌, unless}
use Rattle.ot_theory.specs.Theory.{BlockText}
use Rattle.ot_theory.specs.declared.fault.TheoryFault.{TheoryFault}
use Rattle.ot_blocks.specs.Structure.{PlanText}
use Rattle.ot_blocks.specs.declared.fault.StructureFault.{StructureFault}
use Rattle.ot_link.specs.Stops.{Stop, InTheory, InStructure, TooLarge}

-- the blocks of a theory file, and the plan of their run
pub record Planned : Type 0 where
  pub blocks : List BlockText
  pub plan : PlanText

-- a fault of the grammar, in the file of this path
abbrev pub in_theory : {A : Type 0} → List ℕ → Result A (ℕ × TheoryFault) → Result A Stop
in_theory path (Ok x) = Ok x
in_theory path (Err fault) = Err (InTheory path fault.0 fault.1)

-- a fault of what its blocks ask for
abbrev pub in_structure : {A : Type 0} → List ℕ → Result A (ℕ × StructureFault) → Result A Stop
in_structure path (Ok x) = Ok x
in_structure path (Err fault) = Err (InStructure path fault.0 fault.1)

-- the text of a theory file, which has at most so many bytes
abbrev pub within : ℕ → List ℕ → List ℕ → Result (List ℕ) Stop
within limit path bytes = unless (TooLarge path) (nat_le (length bytes) limit) >>= λ fits. Ok bytes
