-- The walk to the parts of steps. Only contracts of private functions speak of it.
use Rattle.std.specs.Prelude.{◌≡◌, ◌+◌, ◌⊎◌, ℕ, suc, List, [], ◌∷◌, length, Option, None, Some, slice_get}
use Rattle.ot_logic.specs.Lists.{IsMember}

-- a step was met
abbrev pub IsMet : List (Option ℕ) → ℕ → Type 0
IsMet ms i = (k : ℕ) × (slice_get ms i ≡ Some (Some k))

-- how many weren't met
abbrev pub unmet : List (Option ℕ) → ℕ
unmet [] = 0
unmet (None ∷ ms) = suc (unmet ms)
unmet (Some i ∷ ms) = unmet ms

-- those that are asked for are met now, and the new ones of them wait
pub record Meets (IsAsked : ℕ → Type 0) (ms : List (Option ℕ)) (ps : List ℕ) (ns : List (Option ℕ)) (qs : List ℕ)
    : Type 0 where
  pub same_length : length ns ≡ length ms
  pub met : (i : ℕ) → IsAsked i → IsMet ns i
  pub kept : (i : ℕ) → IsMet ms i → IsMet ns i
  pub only : (i j : ℕ) → slice_get ns i ≡ Some (Some j)
      → (slice_get ms i ≡ Some (Some j)) ⊎ ((j ≡ i) × IsAsked i × IsMember i qs)
  pub waits : (i : ℕ) → IsMember i ps → IsMember i qs
  pub each : (i : ℕ) → IsMember i qs → IsMember i ps ⊎ IsAsked i
  pub left : unmet ns + length qs ≡ unmet ms + length ps
