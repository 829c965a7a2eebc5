-- How a task ends, by what was read.
use Rattle.std.proofs.Common.{◌≡◌, ℕ, List, refl}
use Rattle.std.specs.Prelude.{Bool, true, false, MatchBool, Option, Some, None, IfSome}
use Rattle.std.specs.Option.{option_map}
use Rattle.ot_io.specs.Folder.{Folder, bytes_at, path_asked}
use Rattle.ot_program.specs.World.{World, Every, is_standard}
use Rattle.ot_program.specs.Tasks.{TaskValue, command}
use Rattle.ot_program.specs.Endings.{HasTaskCause, HasTaskEnd}
use Rattle.ot_program.specs.Command.{End, IsAnswer}

-- one end is that of each
pub every_some : {A X : Type 0} (May : A → Type 0) (P : A → X → Type 0) (o : Option X)
    → Every May (λ x. IfSome o (P x)) → IfSome o (λ e. Every May (λ x. P x e))
every_some May P None h = tt
every_some May P (Some e) h = h

-- a task ended so
pub task_ended : (t : TaskValue) (I : Type 0) (F : List ℕ → Type 0) (M : Type 0) (May : World → Type 0)
    (o : Option (End ((command t).Product) ((command t).Halt)))
    → Every May (λ world. IfSome o (IsAnswer ((command t).result world))) → IfSome o (HasTaskCause t May I F M)
    → IfSome o (λ e. HasTaskEnd t I F M e May)
task_ended t I F M May None ended cause = tt
task_ended t I F M May (Some e) ended cause = record { end = ended; cause = cause }

-- the path of an input that failed, where a file that failed is one of `N`
abbrev pub IsReadPath : List ℕ → (N I : Type 0) → (F : List ℕ → Type 0) → List ℕ → Type 0
IsReadPath path N I F failed = MatchBool (is_standard path) ((failed ≡ path) × I) (N × F failed)

-- the path of standard input, and of a file
pub input_path : (path : List ℕ) (N I : Type 0) (F : List ℕ → Type 0) (failed : List ℕ) → is_standard path ≡ true
    → failed ≡ path → I → IsReadPath path N I F failed
input_path path N I F failed is same fails = rw is (same, fails)

pub file_path : (path : List ℕ) (N I : Type 0) (F : List ℕ → Type 0) (failed : List ℕ) → is_standard path ≡ false
    → N → F failed → IsReadPath path N I F failed
file_path path N I F failed is needed fails = rw is (needed, fails)

-- a file that was asked for, where the folder is told and has it, was asked for last
pub asked_last : (told : Option Folder) (path : List ℕ) (at : Option (List ℕ)) → at ≡ path_asked told path
    → IfSome at (λ asked. path ≡ asked)
asked_last told path at is = rw is (go told) where
  have : (o : Option (List ℕ)) → IfSome (option_map (λ bytes. path) o) (λ asked. path ≡ asked)
  have None = tt
  have (Some bytes) = refl

  go : (o : Option Folder) → IfSome (path_asked o path) (λ asked. path ≡ asked)
  go None = tt
  go (Some folder) = have (bytes_at folder path)
