-- Counts of numbers, for the calls that count uses.
use Rattle.std.specs.Prelude.{◌≡◌, ◌<◌, ℕ, min, List, length, slice_get, Some, nat_eq}
use Rattle.ot_trace.specs.Uses.{count}

-- each place has how often its number stands in the list, with 2 for two or more
abbrev pub IsTallied : List ℕ → List ℕ → Type 0
IsTallied is counts = (j : ℕ) → j < length counts → slice_get counts j ≡ Some (min 2 (count nat_eq j is))
