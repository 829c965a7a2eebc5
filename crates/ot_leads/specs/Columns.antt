-- For each step of a trace a set of places. Only contracts of private functions speak of it.
use Rattle.std.specs.Prelude.{◌≡◌, ◌↔◌, ◌⊎◌, ℕ, ◌<◌, List, [], Option, Some, length, slice_get, slice_index}
use Rattle.ot_logic.specs.Lists.{IsMember}
use Rattle.ot_sets.specs.Table.{Has}
use Rattle.ot_trace.specs.Origins.{Origin}
use Rattle.ot_trace.specs.Walk.{StepLeadsTo}
use Rattle.ot_leads.specs.declared.column.Column.{Column}

-- the set of a step has a place
abbrev pub HasPlace : Column → ℕ → ℕ → Type 0
HasPlace c i p = Has c.sets (slice_index c.of.items i) p

-- the numbers are of the table, and the empty set is empty
pub record IsColumn (n : ℕ) (c : Column) : Type 0 where
  pub count : length c.of.items ≡ n
  pub inside : (i : ℕ) → i < n → slice_index c.of.items i < length c.sets
  pub empty_inside : c.empty < length c.sets
  pub empty_is : (p : ℕ) → Has c.sets c.empty p → ⊥

-- these pairs of a step and a place are new
pub record Gains (n : ℕ) (old new : Column) (IsNew : ℕ → ℕ → Type 0) : Type 0 where
  pub column : IsColumn n new
  pub leads : (i p : ℕ) → i < n → HasPlace new i p ↔ (HasPlace old i p ⊎ IsNew i p)

-- the step i has the part j
abbrev pub HasPart : List (Origin ℕ) → ℕ → ℕ → Type 0
HasPart ts i j = StepLeadsTo ts [] i j

-- i itself, a part, a part of a part
pub data IsWithin (ts : List (Origin ℕ)) (i : ℕ) : ℕ → Type 0 where
  Itself : IsWithin ts i i
  Further : (j k : ℕ) → IsWithin ts i j → HasPart ts j k → IsWithin ts i k

-- these steps, each at its number, are the roots, the definitions and all their parts
pub record HasParts (ts : List (Origin ℕ)) (roots ds : List ℕ) (met : List (Option ℕ)) : Type 0 where
  pub length_is : length met ≡ length ts
  pub own : (i j : ℕ) → slice_get met i ≡ Some (Some j) → j ≡ i
  pub roots_met : (i : ℕ) → IsMember i roots → slice_get met i ≡ Some (Some i)
  pub definitions_met : (i : ℕ) → IsMember i ds → slice_get met i ≡ Some (Some i)
  pub parts_met : (i j : ℕ) → slice_get met i ≡ Some (Some i) → HasPart ts i j → slice_get met j ≡ Some (Some j)

-- each step that was met has what its parts have, and what it has comes from its parts
pub record PassesUp (ts : List (Origin ℕ)) (met : List (Option ℕ)) (old new : Column) : Type 0 where
  pub column : IsColumn (length ts) new
  pub kept : (i p : ℕ) → i < length ts → HasPlace old i p → HasPlace new i p
  pub closed : (i j p : ℕ) → slice_get met i ≡ Some (Some i) → HasPart ts i j → HasPlace new j p → HasPlace new i p
  pub only : (i p : ℕ) → i < length ts → HasPlace new i p
      → (j : ℕ) × (j < length ts) × IsWithin ts i j × HasPlace old j p
