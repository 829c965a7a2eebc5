-- Files by their paths, and when one is missing.
use Rattle.std.specs.Prelude.{◌≡◌, ◌≤◌, ℕ, Bool, List, [], ◌∷◌, true, ◌&&◌, not, Option, Some, None, Result, IsErrOf}
use Rattle.std.specs.Option.{option_map}
use Rattle.std.specs.List.{list_any}
use Rattle.std.specs.Str.{bytes_eq}
use Rattle.std.specs.Map.{lookup}
use Rattle.ot_io.specs.Causes.{CountRose}
use Rattle.ot_io.specs.declared.files.OpenFault.{OpenFault}
use Rattle.ot_io.specs.declared.files.OpenFault.TheVariants.{Missing, Failed}

-- a finite map from paths to bytes: of two entries of one path the first counts
abbrev pub Folder : Type 0
Folder = List (List ℕ × List ℕ)

-- the bytes of a path's file
abbrev pub bytes_at : Folder → List ℕ → Option (List ℕ)
bytes_at folder path = lookup (bytes_eq path) folder

-- whether no path has two entries
abbrev pub has_distinct_paths : Folder → Bool
has_distinct_paths [] = true
has_distinct_paths (file ∷ files) =
    not (list_any (λ other. bytes_eq file.0 other.0) files) && has_distinct_paths files

-- the path, where a folder is known that has it
abbrev pub path_asked : Option Folder → List ℕ → Option (List ℕ)
path_asked None path = None
path_asked (Some folder) path = option_map (λ bytes. path) (bytes_at folder path)

-- the folder has the path, and its file's bytes are those left
abbrev pub GivesFile : Folder → List ℕ → Option (List ℕ) → Type 0
GivesFile folder path left =
    (bytes : List ℕ) × (bytes_at folder path ≡ Some bytes) × (left ≡ Some bytes)

-- neither count falls, and each refusal comes only where its own count rose
pub record HasOpenCause (result : Result (Unit {0}) OpenFault) (faults faults' misses misses' : ℕ) : Type 0 where
  pub later_faults : faults ≤ faults'
  pub later_misses : misses ≤ misses'
  pub missing : IsErrOf result Missing → CountRose misses misses'
  pub failed : IsErrOf result Failed → CountRose faults faults'

-- what the open file has left, and no byte without one
abbrev pub left_of : {F : Type 0} → (F → Option (List ℕ)) → Option F → Option (List ℕ)
left_of remaining None = Some []
left_of remaining (Some file) = remaining file
