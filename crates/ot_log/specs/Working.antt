-- The work list of the writer.
use Rattle.std.specs.Prelude.{◌≡◌, ◌<◌, ◌+◌, ℕ, true, List, [], ◌∷◌, length}
use Rattle.std.specs.List.{All, AllByRecursion}
use Rattle.ot_logic.specs.Names.{Name}
use Rattle.ot_trace.specs.Origins.{Origin, Make}
use Rattle.ot_logic.specs.declared.command.Cmd.{Cmd}
use Rattle.ot_logic.specs.declared.command.Cmd.TheVariants as words
use Rattle.ot_trace.specs.Trace.{origin_at, origins_at}
use Rattle.ot_log_values.specs.Steps.{origins_of}
use Rattle.ot_log_law.specs.Derived.{makes_theorem}
use Rattle.ot_machine.specs.Meaning.{origin_of}
use Rattle.ot_machine.specs.Values.{value}
use Rattle.ot_machine.specs.declared.session.Session.{Session}
use Rattle.ot_log_law.specs.Writing.{Written, put_theorem, write}
use Rattle.ot_write.specs.Emitting.{cost}
use Rattle.ot_log_words.specs.Recording.{HasResult}
use Rattle.ot_log.specs.Keeping.{Holds}
use Rattle.ot_log.specs.Ready.{HasOperands, HasOutcomes}
use Rattle.ot_log.specs.declared.worklist.Task.{Task}
use Rattle.ot_log.specs.declared.worklist.Task.TheVariants as task
use Rattle.ot_log.specs.declared.writer.Writer.{Writer}

-- the records of a theorem whose operands are written
abbrev pub close : Origin Name → Written → Written
close (Make w os) x = put_theorem w os x
close _ x = x

-- what a task does
abbrev pub perform : Session → Task → Written → Written
perform s (task.Write i) x = write (origin_of s i) x
perform s (task.Close i) x = close (origin_of s i) x

-- the tasks that are left: the last is the next
abbrev pub rest : Session → List Task → Written → Written
rest s [] x = x
rest s (k ∷ ks) x = perform s k (rest s ks x)

-- what it needs is written
abbrev pub CanDo : Session → Task → Written → Type 0
CanDo s (task.Write i) x = HasOutcomes x (origin_of s i)
CanDo s (task.Close i) x = HasOperands x (origin_of s i)

-- each, once those behind it are done
abbrev pub CanDoAll : Session → List Task → Written → Type 0
CanDoAll s [] x = Unit {0}
CanDoAll s (k ∷ ks) x = CanDo s k (rest s ks x) × CanDoAll s ks x

abbrev pub step_of : Task → ℕ
step_of (task.Write i) = i
step_of (task.Close i) = i

-- a word made it that makes theorems
abbrev pub MakesTheorem : Origin Name → Type 0
MakesTheorem (Make w os) = makes_theorem w ≡ true
MakesTheorem _ = ⊥

-- of a term alone
abbrev pub TakesTerm : Cmd → Type 0
TakesTerm words.Refl = Unit {0}
TakesTerm words.Assume = Unit {0}
TakesTerm words.BetaConv = Unit {0}
TakesTerm _ = ⊥

-- of two theorems
abbrev pub TakesTheorems : Cmd → Type 0
TakesTheorems words.EqMp = Unit {0}
TakesTheorems words.AppThm = Unit {0}
TakesTheorems words.DeductAntisym = Unit {0}
TakesTheorems words.Trans = Unit {0}
TakesTheorems words.ProveHyp = Unit {0}
TakesTheorems _ = ⊥

abbrev pub ClosesTheorem : Session → Task → Type 0
ClosesTheorem s (task.Write i) = Unit {0}
ClosesTheorem s (task.Close i) = MakesTheorem (origin_of s i)

-- the step is of the trace, and its origin has a value; what is closed is a theorem
pub record IsTask (s : Session) (k : Task) : Type 0 where
  pub inside : step_of k < length s.trace
  pub value : HasResult (value (origin_of s (step_of k)))
  pub closes : ClosesTheorem s k

abbrev pub AreTasks : Session → List Task → Type 0
AreTasks s = AllByRecursion (IsTask s)

-- how many tasks are left at the most
abbrev pub task_cost : Session → Task → ℕ
task_cost s (task.Write i) = cost (origin_at s.trace i)
task_cost s (task.Close i) = 1

abbrev pub total : Session → List Task → ℕ
total s [] = 0
total s (k ∷ ks) = task_cost s k + total s ks

-- a task is done: those that were put in its place do the same, and can be done if it and those before could
abbrev pub Replaces : Session → Writer → Writer → List Task → List Task → Task → Type 0
Replaces s old new before after k = (max : ℕ) (x : Written) → Holds s max old x
    → (y : Written) × Holds s max new y × (rest s after y ≡ rest s before (perform s k x))
    × (CanDo s k x → CanDoAll s before (perform s k x) → CanDoAll s after y)

-- the step is of a word that makes a theorem, of these operands
pub record IsTheoremStep (s : Session) (id : ℕ) (ops : List ℕ) : Type 0 where
  pub word : Cmd
  pub is : origin_of s id ≡ Make word (origins_of s ops)
  pub numbered : origin_at s.trace id ≡ Make word (origins_at s.trace ops)
  pub makes : makes_theorem word ≡ true
  pub inside : All (λ i. i < length s.trace) ops
