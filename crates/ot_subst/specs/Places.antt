-- A map by place: a table of places beside the pairs.
use Rattle.std.specs.Prelude.{◌≡◌, ℕ, Some, List, slice_get}

-- the place of each pair stands at the number of its term
abbrev pub ArePlaced : List ℕ → List (ℕ × ℕ) → Type 0
ArePlaced places ps = (i : ℕ) (e : ℕ × ℕ) → slice_get ps i ≡ Some e → slice_get places e.0 ≡ Some i
