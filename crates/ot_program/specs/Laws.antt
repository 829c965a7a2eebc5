-- The law that the stated answer is sound.
use Rattle.std.specs.Prelude.{List, ℕ, IfOk}
use Rattle.std.specs.List.{All}
use Rattle.ot_program.specs.World.{World}
use Rattle.ot_program.specs.Tasks.{TaskValue, command}
use Rattle.ot_program.specs.Command.{run_lists, IsProved}
use Rattle.ot_program.specs.FindPattern.{find_at}

-- where a task ends, the theorems of what it ends with are derivable from its assumptions, under its definitions, which
-- are accepted; a search's packages too
pub record AnswersAreSound : Type 0 where
  pub results : (t : TaskValue) (world : World)
      → IfOk ((command t).result world) (λ made. IsProved ((command t).lists made))
  pub packages : (packages pattern path : List ℕ) (world : World)
      → IfOk (find_at packages pattern path world) (λ s. All (λ p. IsProved (run_lists p.ran)) s.packages)
