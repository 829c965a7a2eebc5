-- What was read of files, and the folders that agree with it.
use Rattle.std.specs.Prelude.{◌≡◌, ◌++◌, ℕ, List, [], Bool, true, false, Option, Some, None, IfSome}
use Rattle.std.specs.List.{AllByRecursion}
use Rattle.ot_io.specs.Folder.{Folder, bytes_at}

-- of a file: that there is none, its whole bytes, or a front of them
pub data Reading : Type 0 where
  Missing : Reading
  Whole : List ℕ → Reading
  Front : List ℕ → Reading

-- bytes that were read, to the end or not
abbrev pub reading_of : (ended : Bool) → List ℕ → Reading
reading_of true bytes = Whole bytes
reading_of false bytes = Front bytes

-- a file, if there is one, may be what was read of
abbrev pub MayBeOf : Reading → Option (List ℕ) → Type 0
MayBeOf Missing file = file ≡ None
MayBeOf (Whole bytes) file = file ≡ Some bytes
MayBeOf (Front bytes) file = (rest : List ℕ) × (file ≡ Some (bytes ++ rest))

-- the paths that were asked for, in order, and what was read of each
abbrev pub Readings : Type 0
Readings = List (List ℕ × Reading)

-- a folder may be the one that was read of
abbrev pub Agrees : Folder → Readings → Type 0
Agrees folder readings = AllByRecursion (λ reading. MayBeOf reading.1 (bytes_at folder reading.0)) readings

-- files were read, with which a folder that is told agrees; and of every folder that agrees with them this holds
pub record HasReadFiles (told : Option Folder) (Holds : Folder → Type 0) : Type 0 where
  pub readings : Readings
  pub agrees : IfSome told (λ folder. Agrees folder readings)
  pub holds : (folder : Folder) → Agrees folder readings → Holds folder
