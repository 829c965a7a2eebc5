-- What the files in memory hold: a list of paths and bytes, a place in it, and an offset.
use Rattle.std.specs.Prelude.{◌≡◌, ◌≤◌, ◌<◌, length, ℕ, List, [], Option, Some}
use Rattle.std.specs.Prelude.{None, map, slice_get, Vec, String, string_bytes}
use Rattle.std.specs.Global.{Global}
use Rattle.std.specs.Option.{option_map, ForSome}
use Rattle.ot_io.specs.Folder.{Folder, bytes_at}

-- a path's text and a file's bytes
abbrev pub FileEntry : Type 0
FileEntry = String Global × Vec ℕ Global

-- the folder of these files
abbrev pub folder_of : List FileEntry → Folder
folder_of files = map (λ file. (string_bytes file.0, file.1.items)) files

-- the path at a place
abbrev pub path_of : Folder → Option ℕ → Option (List ℕ)
path_of folder None = None
path_of folder (Some place) = option_map (λ file. file.0) (slice_get folder place)

-- the bytes at a place
abbrev pub open_bytes : Folder → Option ℕ → List ℕ
open_bytes folder None = []
open_bytes folder (Some place) = bytes_of (slice_get folder place) where
  bytes_of : Option (List ℕ × List ℕ) → List ℕ
  bytes_of None = []
  bytes_of (Some file) = file.1

-- the first file of a path is at this place
pub record IsFileAt (folder : Folder) (path : List ℕ) (place : ℕ) : Type 0 where
  pub bytes : List ℕ
  pub here : slice_get folder place ≡ Some (path, bytes)
  pub first : bytes_at folder path ≡ Some bytes

-- a read gives a byte, the open file's place is there, and the offset is inside its bytes
pub record IsReader (files : List FileEntry) (current : Option ℕ) (offset piece : ℕ) : Type 0 where
  pub some : 1 ≤ piece
  pub place : ForSome current (λ place. place < length files)
  pub inside : offset ≤ length (open_bytes (folder_of files) current)
