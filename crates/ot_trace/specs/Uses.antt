-- How often steps are used.
use Rattle.std.specs.Prelude.{◌≡◌, ◌<◌, ◌+◌, ℕ, suc, cond, min, Bool, List, [], ◌∷◌, length, map, slice_get, Some}
use Rattle.std.specs.List.{flat_map}
use Rattle.std.specs.Bool.{Decides}
use Rattle.ot_trace.specs.Origins.{Origin, operands}
use Rattle.ot_trace.specs.Trace.{origin_at}

-- how often x stands in the list
abbrev pub count : {X : Type 0} → (X → X → Bool) → X → List X → ℕ
count same x [] = 0
count same x (y ∷ ys) = cond (same x y) (suc (count same x ys)) (count same x ys)

-- the numbers of the marked places, from the k-th on
abbrev pub marked_from : ℕ → List Bool → List ℕ
marked_from k [] = []
marked_from k (b ∷ bs) = cond b (k ∷ marked_from (suc k) bs) (marked_from (suc k) bs)

-- the places where an origin is used: as a root, or as an operand of one of these origins
abbrev pub uses : {N : Type 0} → (Origin N → Origin N → Bool) → List (Origin N) → List (Origin N) → Origin N → ℕ
uses same roots needed o = count same o roots + count same o (flat_map operands needed)

-- the uses of each step by the roots and by the marked steps, with 2 for two or more
pub record AreCounts (ts : List (Origin ℕ)) (roots : List ℕ) (marks : List Bool) (counts : List ℕ) : Type 0 where
  pub length_is : length counts ≡ length ts
  pub counted : (same : Origin ℕ → Origin ℕ → Bool) → ((a b : Origin ℕ) → Decides (same a b) (a ≡ b)) → (j : ℕ)
      → j < length ts
      → slice_get counts j ≡ Some
      (min 2 (uses same (map (origin_at ts) roots) (map (origin_at ts) (marked_from 0 marks)) (origin_at ts j)))
