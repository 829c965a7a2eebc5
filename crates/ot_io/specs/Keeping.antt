-- What reading leaves of a source, and of a folder of files.
use Rattle.std.specs.Prelude.{◌≡◌, ◌≤◌, ℕ, List, Option}
use Rattle.ot_io.specs.Folder.{Folder}

-- the folder, the path asked for last and the count of missing files stay, and the count of failures never falls
pub record KeepsSource {S : Type 0} (folder : S → Option Folder) (faults misses : S → ℕ)
    (at : S → Option (List ℕ)) (old new : S) : Type 0 where
  pub same_folder : folder new ≡ folder old
  pub same_misses : misses new ≡ misses old
  pub same_at : at new ≡ at old
  pub later : faults old ≤ faults new

-- the folder stays, and neither the count of failures nor that of missing files ever falls
pub record KeepsFiles {F : Type 0} (folder : F → Option Folder) (faults misses : F → ℕ) (old new : F) : Type 0 where
  pub same_folder : folder new ≡ folder old
  pub later : faults old ≤ faults new
  pub later_misses : misses old ≤ misses new
