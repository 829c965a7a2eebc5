-- A command of the program: one record for each.
use Rattle.std.specs.List.{All}
use Rattle.std.specs.Prelude.{ℕ, List, Bool, Option, Result, Ok, Err, ◌≡◌, ◌⊎◌, ◌||◌, MatchBool, IfErr}
use Rattle.ot_args.specs.Grammar.{is_theory}
use Rattle.ot_io.specs.Folder.{Folder, path_asked}
use Rattle.ot_laws.specs.Theorem.{IsTheorem}
use Rattle.ot_link.specs.Blocks.{Ran}
use Rattle.ot_logic.specs.Hol.{IsSequent, Accepted as AcceptedLists}
use Rattle.ot_logic.specs.Lists.{IsMember}
use Rattle.ot_logic.specs.Names.{Name}
use Rattle.ot_logic.specs.Naming.{names}
use Rattle.ot_logic.specs.Trees.{Sequent, Definition}
use Rattle.ot_program.specs.Runs.{assumptions_of, definitions_of, exports_of}
use Rattle.ot_program.specs.World.{World, Every, is_standard}
use Rattle.ot_program.specs.declared.status.Status.{Status}
use Rattle.ot_program.specs.declared.status.Status.TheVariants.{NoFile}

-- ---- of which lists a text is a report

-- the assumptions, the definitions and the theorems of which it prints; of `read` and `find` those of the run of the
-- input
pub record Lists : Type 0 where
  pub assumptions : List (Sequent Name)
  pub definitions : List (Definition Name)
  pub theorems : List (Sequent Name)

abbrev pub run_lists : Ran → Lists
run_lists r = record { assumptions = assumptions_of r; definitions = definitions_of r; theorems = exports_of r }

-- each assumption is of propositions alone, the definitions are accepted over them, and each theorem is derivable
-- from the assumptions under the definitions
pub record IsProved (l : Lists) : Type 0 where
  pub assumptions : All (IsSequent names) l.assumptions
  pub accepted : AcceptedLists names l.assumptions l.definitions
  pub theorems : All (IsTheorem names l.assumptions l.definitions) l.theorems

-- ---- what a command reads

-- the files are left alone where the input is standard input, and standard input where it is a file
abbrev pub LeavesOther : {F S : Type 0} → List ℕ → F → F → S → S → Type 0
LeavesOther path files files_now input input_now =
    MatchBool (is_standard path) (files_now ≡ files) (input_now ≡ input)

-- both are left alone
abbrev pub LeavesBoth : {F S : Type 0} → F → F → S → S → Type 0
LeavesBoth files files_now input input_now = (files_now ≡ files) × (input_now ≡ input)

-- the path that was asked for last is the article's, where it is a file and the folder is known and has it
abbrev pub LastInput : List ℕ → Option Folder → Option (List ℕ) → Type 0
LastInput path folder at = MatchBool (is_standard path || is_theory path) (Unit {0}) (at ≡ path_asked folder path)

-- where the input is an article's file, the path that was asked for last is that file's, or the text's
abbrev pub LastOf : (path text : List ℕ) → Option Folder → Option (List ℕ) → Type 0
LastOf path text folder at =
    MatchBool (is_standard path || is_theory path) (Unit {0})
    ((at ≡ path_asked folder path) ⊎ (at ≡ path_asked folder text))

-- it is a result and no stop
abbrev pub HasNoStop : {A S : Type 0} → Result A S → Type 0
HasNoStop answer = IfErr answer (λ stop. ⊥)

-- the path of an input that failed: `-`, where standard input failed, or that of a file which failed and which the input
-- needs in each world that may be
abbrev pub IsInputPath : (path : List ℕ) → (opened : Folder → List (List ℕ)) → (May : World → Type 0)
    → (InputFails : Type 0) → (FileFails : List ℕ → Type 0) → List ℕ → Type 0
IsInputPath path opened May InputFails FileFails failed =
    MatchBool (is_standard path) ((failed ≡ path) × InputFails)
    (Every May (λ world. IsMember failed (opened world.folder)) × FileFails failed)

-- ---- how a command ends

-- a command ends with its product, at a stop, or at a path that failed
pub data End (X S : Type 0) : Type 0 where
  Finished : X → End X S
  Stopped : S → End X S
  Failed : List ℕ → End X S

-- the end says what is answered
abbrev pub IsAnswer : {X S : Type 0} → Result X S → End X S → Type 0
IsAnswer answer (Finished x) = answer ≡ Ok x
IsAnswer answer (Stopped s) = answer ≡ Err s
IsAnswer answer (Failed path) = Unit {0}

-- why there is such an end: a stop is one of `Own`, and where its status is `NoFile` a missing file was counted; a path
-- that failed is one of `Failing`
abbrev pub HasCause : {X S : Type 0} → (S → Status) → (Own : S → Type 0) → (Failing : List ℕ → Type 0)
    → (MissRose : Type 0) → End X S → Type 0
HasCause status Own Failing MissRose (Finished x) = Unit {0}
HasCause status Own Failing MissRose (Stopped s) = Own s × (status s ≡ NoFile → MissRose)
HasCause status Own Failing MissRose (Failed path) = Failing path

-- ---- the record

-- how a command ends in a world: with a product, or at a halt (`result`). The text that is printed of a product
-- (`text`), whether it is within its limit (`fits`), and the line where it isn't (`large`); the lists of which it is a
-- report (`lists`), and what is promised of the product besides (`IsPromised`). The status of a halt and its line, and
-- which halts are the command's own (`IsOwn`). A path that failed is named by a read fault (`IsFailed`); no file is
-- asked for (`AsksNoFile`); what is left alone (`Leaves`); and which path was asked for last (`Last`)
pub record Command : Type 1 where
  pub Product : Type 0
  pub Halt : Type 0
  pub result : World → Result Product Halt
  pub text : Product → List ℕ
  pub fits : Product → Bool
  pub large : List ℕ
  pub lists : Product → Lists
  pub IsPromised : Product → Type 0
  pub status : Halt → Status
  pub line : Halt → List ℕ
  pub IsOwn : Halt → Type 0
  pub IsFailed : (May : World → Type 0) → (InputFails : Type 0) → (FileFails : List ℕ → Type 0) → List ℕ → Type 0
  pub AsksNoFile : Type 0
  pub Leaves : {F S : Type 0} → F → F → S → S → Type 0
  pub Last : Option Folder → Option (List ℕ) → Type 0
