-- The packages that a theory file requires, each once, behind its own requirements.
use Rattle.std.specs.Prelude.{ℕ, List, [], ◌∷◌, ◌++◌, Bool, not, nat_le, length, map, codes}
use Rattle.std.specs.Prelude.{find, Option, Some, None, Result, Ok, Err, if◌then◌else◌, reverse}
use Rattle.std.specs.List.{list_any, filter}
use Rattle.std.specs.Str.{bytes_eq}
use Rattle.ot_io.specs.Folder.{Folder, bytes_at}
use Rattle.ot_logic.specs.Answers.{◌>>=◌, unless, some_or}
use Rattle.ot_logic.specs.Limits.{index_limit}
use Rattle.ot_theory.specs.Lines.{LineText, lines_of}
use Rattle.ot_theory.specs.Theory.{TagText, TheoryText, theory}
use Rattle.ot_theory.specs.declared.fault.TheoryFault.{TheoryFault}
use Rattle.ot_blocks.specs.Paths.{is_package, name_part, package_path}
use Rattle.ot_walk.specs.Walk.{Edge, Walk, Walked, Stops, TooDeep, walk_from}

-- why packages are refused, with the path of the file and the line; or the path of a file that is missing
pub data Refusal : Type 0 where
  Theory : List ℕ → ℕ → TheoryFault → Refusal
  TheoryTooLarge : List ℕ → Refusal
  IndexTooLarge : List ℕ → Refusal
  BadIndex : List ℕ → ℕ → Refusal
  NotInstalled : List ℕ → ℕ → Refusal
  RequiresCycle : List ℕ → ℕ → Refusal
  Missing : List ℕ → Refusal

-- ---- theory files

-- a theory, or its fault with the path of its file
abbrev pub in_file : {A : Type 0} → List ℕ → Result A (ℕ × TheoryFault) → Result A Refusal
in_file path (Ok x) = Ok x
in_file path (Err e) = Err (Theory path e.0 e.1)

-- the bytes of a path's file
abbrev pub file_at : Folder → List ℕ → Result (List ℕ) Refusal
file_at folder path = some_or (Missing path) (bytes_at folder path)

-- the same where there are no more of them than this; or else this refusal
abbrev pub text_at : Folder → ℕ → Refusal → List ℕ → Result (List ℕ) Refusal
text_at folder max too_large path =
    file_at folder path >>= λ bytes.
    unless too_large (nat_le (length bytes) max) >>= λ small.
    Ok bytes

-- the theory of a path's file, which has no more bytes than these
abbrev pub theory_at : Folder → ℕ → List ℕ → Result TheoryText Refusal
theory_at folder max path = text_at folder max (TheoryTooLarge path) path >>= λ text. in_file path (theory text)

-- whether a tag names a package
abbrev pub is_requirement : TagText → Bool
is_requirement tag = bytes_eq tag.key (codes "requires")

-- the tags that name packages
abbrev pub requirements : TheoryText → List TagText
requirements t = filter is_requirement t.tags

-- ---- the list of installed packages

-- its path, in the folder of packages
abbrev pub index_path : List ℕ → List ℕ
index_path packages = packages ++ codes "/installed"

-- the texts of these lines, or the first one that is no full name
abbrev pub full_names : List ℕ → List LineText → Option LineText → Result (List (List ℕ)) Refusal
full_names path lines (Some bad) = Err (BadIndex path bad.number)
full_names path lines None = Ok (map (λ line. line.text) lines)

-- the full names that a file lists
abbrev pub names_of : List ℕ → List LineText → Result (List (List ℕ)) Refusal
names_of path lines = full_names path lines (find (λ line. not (is_package line.text)) lines)

-- the full names that the list in the folder of packages has
abbrev pub index_at : Folder → List ℕ → Result (List (List ℕ)) Refusal
index_at folder path = text_at folder index_limit (IndexTooLarge path) path >>= λ text. names_of path (lines_of text)

-- the last full name that has this name
abbrev pub picked_by_name : List (List ℕ) → List ℕ → Option (List ℕ)
picked_by_name listed name = find (λ full. bytes_eq (name_part full) name) (reverse listed)

-- what a value picks: itself, where it is listed, else the last full name that has it as its name
abbrev pub picked : List (List ℕ) → List ℕ → Option (List ℕ)
picked listed value = if list_any (bytes_eq value) listed then Some value else picked_by_name listed value

-- ---- the walk

-- a tag of the file of this path leads to the package that its value picks
abbrev pub edge_of : List (List ℕ) → List ℕ → TagText → Edge (List ℕ) Refusal
edge_of listed path tag =
    record {
      target = some_or (NotInstalled path tag.line) (picked listed tag.value);
      back = RequiresCycle path tag.line;
    }

-- those of such tags
abbrev pub edges_in : List (List ℕ) → List ℕ → List TagText → List (Edge (List ℕ) Refusal)
edges_in listed path tags = map (edge_of listed path) tags

-- those of a package's file
abbrev pub edges_of : Folder → ℕ → List ℕ → List (List ℕ) → List ℕ → Result (List (Edge (List ℕ) Refusal)) Refusal
edges_of folder max packages listed full =
    theory_at folder max (package_path packages full)
    >>= λ t. Ok (edges_in listed (package_path packages full) (requirements t))

-- the order, or the refusal; that the bound ran out never comes
abbrev pub walked : Walk (List ℕ) Refusal → Result (List (List ℕ)) Refusal
walked (Walked order) = Ok order
walked (Stops refusal) = Err refusal
walked TooDeep = Ok []

-- what these tags require, over the list of installed packages
abbrev pub required_listed : Folder → ℕ → List ℕ → List ℕ → List TagText → List (List ℕ)
    → Result (List (List ℕ)) Refusal
required_listed folder max packages path tags listed =
    walked (walk_from bytes_eq (edges_of folder max packages listed) (length listed) (edges_in listed path tags))

-- what these tags of a file require; the list of installed packages is read
abbrev pub required_over : Folder → ℕ → List ℕ → List ℕ → List TagText → Result (List (List ℕ)) Refusal
required_over folder max packages path tags = index_at folder (index_path packages)
    >>= required_listed folder max packages path tags

-- it is read where there is a tag
abbrev pub required_by : Folder → ℕ → List ℕ → List ℕ → List TagText → Result (List (List ℕ)) Refusal
required_by folder max packages path [] = Ok []
required_by folder max packages path (tag ∷ tags) = required_over folder max packages path (tag ∷ tags)

-- the full names of the packages that the theory file of a path requires, in their order, or the first refusal
abbrev pub required : Folder → ℕ → List ℕ → List ℕ → Result (List (List ℕ)) Refusal
required folder max packages path = theory_at folder max path >>= λ t. required_by folder max packages path
    (requirements t)
