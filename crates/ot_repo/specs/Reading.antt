-- What the code's parts answer.
use Rattle.std.specs.Prelude.{◌≡◌, ℕ, List, nat_le, map, length, reverse, Option, Some}
use Rattle.std.specs.Prelude.{None, Result, Ok, Err, string_bytes, if◌then◌else◌}
use Rattle.std.specs.Borrow.{Bor}
use Rattle.std.specs.HashMap.{HashMap, get_by}
use Rattle.std.specs.Option.{option_map}
use Rattle.std.specs.Str.{bytes_eq}
use Rattle.ot_io.specs.Folder.{Folder}
use Rattle.ot_logic.specs.Answers.{◌>>=◌, some_or}
use Rattle.ot_logic.specs.Lists.{IsMember}
use Rattle.ot_blocks.specs.Paths.{package_path}
use Rattle.ot_theory.specs.Theory.{TagText}
use Rattle.ot_walk.specs.Walk.{Edge}
use Rattle.ot_walk.specs.Walks.{Reaches}
use Rattle.ot_repo.specs.Laws.{IsNeeded}
use Rattle.ot_repo.specs.Answers.{ArePackages}
use Rattle.ot_repo.specs.Required.{Refusal, NotInstalled, RequiresCycle, file_at, index_at, index_path, picked}
use Rattle.ot_repo.specs.declared.index.Index.{Index}
use Rattle.ot_repo.specs.declared.requirements.Requirement.{Requirement}
use Rattle.ot_repo.specs.declared.requirements.File.{File}
use Rattle.ot_repo.specs.declared.walk.Mark.{Mark}
use Rattle.ot_repo.specs.declared.walk.Mark.TheVariants.{Open, Done}

-- ---- files

-- the bytes of a file, where it has no more than so many
abbrev pub sized_at : Folder → ℕ → List ℕ → Result (Option (List ℕ)) Refusal
sized_at folder max path =
    file_at folder path >>= λ bytes. Ok (if nat_le (length bytes) max then Some bytes else None)

-- ---- the list of installed packages

-- names, without where they lie in memory
abbrev pub texts_of : List (Bor (List ℕ)) → List (List ℕ)
texts_of names = map (λ full. full.now) names

-- the full names that it lists
abbrev pub listed_in : Index → List (List ℕ)
listed_in index = texts_of index.names.items

-- the name that a map has for a value
abbrev pub value_in : {S : Type 0} → HashMap (Bor (List ℕ)) (Bor (List ℕ)) S → List ℕ → Option (List ℕ)
value_in picks value = option_map (λ full. full.now) (get_by (λ key. bytes_eq value key.now) picks)

-- its names are full names, and its map has what each value picks
pub record IsIndex (index : Index) : Type 0 where
  pub full : ArePackages (listed_in index)
  pub picks : (value : List ℕ) → value_in index.picks value ≡ picked (listed_in index) value

-- ---- tags

-- the edge that a tag of the file of this path is
abbrev pub edge_at : List ℕ → Requirement → Edge (List ℕ) Refusal
edge_at path r = record {
  target = some_or (NotInstalled path r.line) (option_map (λ f. f.now) r.full);
  back = RequiresCycle path r.line;
}

-- the edges that are left of a file
abbrev pub edges_left : File → List (Edge (List ℕ) Refusal)
edges_left file = map (edge_at (string_bytes file.path)) (reverse file.left.items)

-- each package that these tags pick is listed
abbrev pub AreListed : List (List ℕ) → List Requirement → Type 0
AreListed listed rs = (r : Requirement) → IsMember r rs → (full : List ℕ) → option_map (λ f. f.now) r.full ≡ Some full
    → IsMember full listed

-- ---- the walk

-- how far the walk is with a package
abbrev pub mark_in : {S : Type 0} → HashMap (Bor (List ℕ)) Mark S → List ℕ → Option Mark
mark_in marks full = get_by (λ key. bytes_eq full key.now) marks

-- the package that is walked next for an edge, if one is
abbrev pub arrived : Option Mark → List ℕ → Refusal → Result (Option (List ℕ)) Refusal
arrived None full back = Ok (Some full)
arrived (Some Open) full back = Err back
arrived (Some Done) full back = Ok None

-- the same, by the marks
abbrev pub next_at : (List ℕ → Option Mark) → Edge (List ℕ) Refusal → Result (Option (List ℕ)) Refusal
next_at marked e = e.target >>= λ full. arrived (marked full) full e.back

-- ---- the files that are needed

-- the theory file of a package that these edges lead to
pub record IsReachedFile (edges : List ℕ → Result (List (Edge (List ℕ) Refusal)) Refusal)
    (start : List (Edge (List ℕ) Refusal)) (packages file : List ℕ) : Type 0 where
  pub full : List ℕ
  pub reached : Reaches edges start full
  pub file_is : file ≡ package_path packages full

-- a file that is needed for tags: the list of installed packages, or the theory file of a package that they need
pub data IsTagFile (folder : Folder) (max : ℕ) (packages : List ℕ) (tags : List TagText) : List ℕ → Type 0 where
  TheList : IsTagFile folder max packages tags (index_path packages)
  OfPackage : (listed : List (List ℕ)) (full : List ℕ) → index_at folder (index_path packages) ≡ Ok listed
      → IsNeeded folder max packages listed tags full
      → IsTagFile folder max packages tags (package_path packages full)
