-- How a link stops, and the files that it needs.
use Rattle.std.specs.Prelude.{ℕ, List, [], ◌∷◌, ◌++◌, Result, Ok, Err}
use Rattle.ot_logic.specs.Names.{Name}
use Rattle.ot_logic.specs.Faults.{Fault}
use Rattle.ot_logic.specs.Answers.{some_or}
use Rattle.ot_logic.specs.declared.limits.Limits.{Limits}
use Rattle.ot_io.specs.Folder.{Folder, bytes_at}
use Rattle.ot_theory.specs.declared.fault.TheoryFault.{TheoryFault}
use Rattle.ot_blocks.specs.declared.fault.StructureFault.{StructureFault}

-- the first fault, with the path of its file, and with its line where it has one
pub data Stop : Type 0 where
  InArticle : List ℕ → ℕ → Fault Name → Stop
  InTheory : List ℕ → ℕ → TheoryFault → Stop
  InStructure : List ℕ → ℕ → StructureFault → Stop
  TooLarge : List ℕ → Stop
  Missing : List ℕ → Stop

-- what is made, or why it stops, and the paths of the files that are needed for it, in order
pub record Linked (A : Type 0) : Type 0 where
  pub paths : List (List ℕ)
  pub answer : Result A Stop

-- an answer for which no file is needed
abbrev pub answered : {A : Type 0} → Result A Stop → Linked A
answered answer = record { paths = []; answer = answer }

-- an answer for which the file of this path alone is needed
abbrev pub answered_by : {A : Type 0} → List ℕ → Result A Stop → Linked A
answered_by path answer = record { paths = path ∷ []; answer = answer }

-- goes on behind these paths; the first stop counts
abbrev pub go_on : {A B : Type 0} → List (List ℕ) → Result A Stop → (A → Linked B) → Linked B
go_on paths (Err stop) f = record { paths = paths; answer = Err stop }
go_on paths (Ok x) f = record { paths = paths ++ (f x).paths; answer = (f x).answer }

infixl 10 ◌>>=◌
-- goes on with what was made
abbrev pub ◌>>=◌ : {A B : Type 0} → Linked A → (A → Linked B) → Linked B
l >>= f = go_on l.paths l.answer f

-- the files, the folder of packages, and the limits
pub record Setting : Type 0 where
  pub folder : Folder
  pub packages : List ℕ
  pub limits : Limits

-- the bytes of a file
abbrev pub file_at : Setting → List ℕ → Linked (List ℕ)
file_at e path = record { paths = path ∷ []; answer = some_or (Missing path) (bytes_at e.folder path) }
