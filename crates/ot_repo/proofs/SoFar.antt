-- How far the walk over packages is.
use Rattle.std.specs.Prelude.{Option, is_some, not}
use Rattle.std.specs.List.{list_any, filter}
use Rattle.std.specs.Str.{bytes_eq}
use Rattle.std.proofs.Common.{◌≡◌, ◌+◌, ◌*◌, ℕ, Bool, true, false, List, [], ◌∷◌, map, length, Result, Some, None}
use Rattle.ot_logic.specs.Lists.{IsMember}
use Rattle.ot_walk.specs.Walk.{Edge, Walk}
use Rattle.ot_repo.specs.Required.{Refusal}
use Rattle.ot_repo.specs.Reading.{edges_left, AreListed}
use Rattle.ot_repo.specs.declared.requirements.File.{File}
use Rattle.ot_repo.specs.declared.walk.Waiting.{Waiting}
use Rattle.ot_repo.specs.declared.walk.Mark.{Mark}
use Rattle.ot_repo.specs.declared.walk.Mark.TheVariants.{Open, Done}
use Rattle.ot_walk.proofs.Rest.{path_of, rest_of}

-- a package that is walked, and the edges that are left of the file that waits for it
abbrev pub level_of : Waiting → List ℕ × List (Edge (List ℕ) Refusal)
level_of w = (w.full.now, edges_left w.file)

-- those of a stack, its end first
abbrev pub levels_of : List Waiting → List (List ℕ × List (Edge (List ℕ) Refusal))
levels_of ws = map level_of ws

abbrev pub is_among : List (List ℕ) → List ℕ → Bool
is_among names name = list_any (λ x. bytes_eq x name) names

-- the mark of a package that is done, or on the path
abbrev pub mark_of : Bool → Bool → Option Mark
mark_of true on_path = Some Done
mark_of false true = Some Open
mark_of false false = None

-- the marks say which packages are done and which are on the path
abbrev pub IsMarked : (List ℕ → Option Mark) → List (List ℕ) → List (List ℕ) → Type 0
IsMarked marked path done = (name : List ℕ) → marked name ≡ mark_of (is_among done name) (is_among path name)

-- the package is listed, and so are those that the tags left pick
pub record IsLevel (listed : List (List ℕ)) (w : Waiting) : Type 0 where
  pub full : IsMember w.full.now listed
  pub left : AreListed listed w.file.left.items

abbrev pub AreLevels : List (List ℕ) → List Waiting → Type 0
AreLevels listed ws = (w : Waiting) → IsMember w ws → IsLevel listed w

-- what holds of the code's state, with the stack's end first
pub record SoFar (listed : List (List ℕ)) (marked : List ℕ → Option Mark) (ws : List Waiting) (file : File)
    (done : List (List ℕ)) : Type 0 where
  pub marks : IsMarked marked (path_of (levels_of ws)) done
  pub levels : AreLevels listed ws
  pub left : AreListed listed file.left.items

-- the rest of the walk is the whole one
pub record Rests (edges : List ℕ → Result (List (Edge (List ℕ) Refusal)) Refusal) (whole : Walk (List ℕ) Refusal)
    (ws : List Waiting) (file : File) (done : List (List ℕ)) : Type 0 where
  pub bound : ℕ
  pub is : rest_of bytes_eq edges bound (levels_of ws) (edges_left file) done ≡ whole

-- ---- the measure

abbrev pub is_new : (List ℕ → Option Mark) → List ℕ → Bool
is_new marked name = not (is_some (marked name))

-- how many packages have no mark
abbrev pub new_count : (List ℕ → Option Mark) → List (List ℕ) → ℕ
new_count marked listed = length (filter (is_new marked) listed)

-- how many tags are left in the files of the stack, and one for each file
abbrev pub stack_work : List Waiting → ℕ
stack_work [] = 0
stack_work (w ∷ ws) = length w.file.left.items + 1 + stack_work ws

abbrev pub work : List (List ℕ) → (List ℕ → Option Mark) → List Waiting → File → ℕ
work listed marked ws file = new_count marked listed * 18446744073709551616 + stack_work ws + length file.left.items
