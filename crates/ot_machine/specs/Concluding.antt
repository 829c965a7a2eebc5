-- What a rule of the kernel gave, and what it makes of the stack.
use Rattle.std.specs.Prelude.{◌≡◌, ℕ, List, Result, Ok, Err}
use Rattle.ot_logic.specs.Names.{Name}
use Rattle.ot_logic.specs.Trees.{Sequent}
use Rattle.ot_logic.specs.Faults.{Fault}
use Rattle.ot_logic.specs.Answers.{◌>>=◌}
use Rattle.ot_logic.specs.declared.command.Cmd.{Cmd}
use Rattle.ot_kernel.specs.State.{State, theorem_at}
use Rattle.ot_kernel.specs.Answers.{RefusesRule}
use Rattle.ot_kernel.specs.declared.fault.RuleFault.{RuleFault}
use Rattle.ot_trace.specs.Origins.{Make}
use Rattle.ot_machine.specs.Objects.{theorem}
use Rattle.ot_machine.specs.States.{Entry}
use Rattle.ot_machine.specs.Places.{top, replaced, origins_of}
use Rattle.ot_machine.specs.Rows.{Row}

-- a rule gave the stated theorem, or refused as stated
abbrev pub GivesTheorem : State → Result ℕ RuleFault → Result (Sequent Name) (Fault Name) → Type 0
GivesTheorem k (Ok th) stated = stated ≡ Ok (theorem_at k th)
GivesTheorem k (Err e) stated = RefusesRule e stated

-- a theorem that a word makes of the top n entries, in their place
abbrev pub concluding : ℕ → Cmd → Result (Sequent Name) (Fault Name) → List Entry → Row
concluding n w stated stack = do
  q ← stated
  Ok (replaced n (record { object = theorem q; origin = Make w (origins_of (top n stack)) }) stack)
