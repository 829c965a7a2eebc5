-- How far the walk is: its marks, and the path that is left to do.
use Rattle.std.proofs.Common.{◌≡◌, ◌<◌, ◌≤◌, ◌+◌, ◌-◌, ℕ, suc, List, [], ◌∷◌, ◌++◌, length, map, drop, get_or}
use Rattle.std.specs.Prelude.{Bool, if◌then◌else◌, ◌==◌}
use Rattle.ot_walk.specs.Walk as walk
use Rattle.ot_walk.specs.Walk.{Walk, Walked, ◌>>=◌, walk_edges, walk_key}
use Rattle.ot_blocks.specs.Order.{imports_at, edge_of, edges_of}
use Rattle.ot_blocks.specs.declared.walk.Import.{Import}
use Rattle.ot_blocks.specs.declared.walk.Frame.{Frame}
use Rattle.ot_blocks.specs.declared.walk.Mark.{Mark}
use Rattle.ot_blocks.specs.declared.walk.Mark.TheVariants.{New, Open, Done}

-- ---- parts of the walk

abbrev pub is_in : List ℕ → ℕ → Bool
is_in bs b = walk.is_in (λ x y. x == y) bs b

abbrev pub walk_imports : List (List Import) → (List ℕ → ℕ → Walk ℕ ℕ) → List ℕ → List Import → List ℕ → Walk ℕ ℕ
walk_imports g visit path is done = walk_edges (λ x y. x == y) (edges_of g) visit path (map edge_of is) done

abbrev pub walk_block : ℕ → List (List Import) → List ℕ → List ℕ → ℕ → Walk ℕ ℕ
walk_block n g path done b = walk_key (λ x y. x == y) (edges_of g) n path done b

-- ---- the path

abbrev pub blocks_of : List Frame → List ℕ
blocks_of fs = map (λ f. f.block) fs

-- the rest of the walk from a path, its end first
abbrev pub rest_of : List (List Import) → List Frame → ℕ → List ℕ → Walk ℕ ℕ
rest_of g [] bound done = Walked done
rest_of g (f ∷ fs) bound done =
    walk_imports g (walk_block bound g (f.block ∷ blocks_of fs)) (f.block ∷ blocks_of fs)
    (drop f.next (imports_at g f.block)) done
    >>= λ more. rest_of g fs (suc bound) (more ++ f.block ∷ [])

abbrev pub AllInside : ℕ → List Frame → Type 0
AllInside n [] = Unit {0}
AllInside n (f ∷ fs) = (f.block < n) × AllInside n fs

-- ---- marks

abbrev pub mark_of : List ℕ → List ℕ → ℕ → Mark
mark_of path done b = if is_in done b then Done else (if is_in path b then Open else New)

-- the marks of all blocks
pub record Marked (n : ℕ) (marks : List Mark) (path done : List ℕ) : Type 0 where
  pub size : length marks ≡ n
  pub each : (b : ℕ) → b < n → get_or marks b New ≡ mark_of path done b

abbrev pub new_count : List Mark → ℕ
new_count [] = 0
new_count (New ∷ ms) = suc (new_count ms)
new_count (Open ∷ ms) = new_count ms
new_count (Done ∷ ms) = new_count ms

-- ---- the walk as a whole

-- what is left of the walk gives the whole order; a block that is new pays for one level of the bound
pub record SoFar (g : List (List Import)) (whole : Walk ℕ ℕ) (marks : List Mark) (fs : List Frame) (done : List ℕ) : Type
    0 where
  pub bound : ℕ
  pub enough : new_count marks ≤ bound
  pub inside : AllInside (length g) fs
  pub marked : Marked (length g) marks (blocks_of fs) done
  pub whole_is : rest_of g fs bound done ≡ whole

-- the work on blocks that are new: each import, and the block
abbrev pub new_work : List (List Import) → List Mark → ℕ
new_work [] ms = 0
new_work (is ∷ g) [] = 0
new_work (is ∷ g) (New ∷ ms) = suc (length is) + new_work g ms
new_work (is ∷ g) (Open ∷ ms) = new_work g ms
new_work (is ∷ g) (Done ∷ ms) = new_work g ms

-- the work that is left on the path
abbrev pub path_work : List (List Import) → List Frame → ℕ
path_work g [] = 0
path_work g (f ∷ fs) = suc (length (imports_at g f.block) - f.next) + path_work g fs
