-- What the steps that were met lead to by their parts. Only contracts of private functions speak of the columns.
use Rattle.std.specs.Prelude.{◌≡◌, ◌⊎◌, ℕ, ◌<◌, List, Option, length, slice_get, slice_index, Some}
use Rattle.ot_logic.specs.Lists.{IsMember}
use Rattle.ot_trace.specs.Origins.{Origin, symbols}
use Rattle.ot_trace.specs.Trace.{origin_at}
use Rattle.ot_leads.specs.Found.{IsFirst}
use Rattle.ot_leads.specs.Columns.{HasPlace, IsColumn, HasPart, IsWithin, HasParts}
use Rattle.ot_leads.specs.declared.column.Column.{Column}
use Rattle.ot_leads.specs.declared.finding.Leads as code

-- the step stands at this place of the assumptions
abbrev pub IsGiven : List ℕ → ℕ → ℕ → Type 0
IsGiven gs i p = (p < length gs) × (slice_index gs p ≡ i)

-- the step is a definition, or one of its symbols
abbrev pub IsDefined : List (Origin ℕ) → ℕ → ℕ → Type 0
IsDefined ts d i = (d ≡ i) ⊎ IsMember (origin_at ts i) (symbols (origin_at ts d))

-- at this place is first a definition that is the step, or defines it
abbrev pub IsMade : List (Origin ℕ) → List ℕ → ℕ → ℕ → Type 0
IsMade ts ds i p = (p < length ds) × IsFirst ds p × IsDefined ts (slice_index ds p) i

-- the sets of the steps that were met are those of what their parts are
pub record IsSpread (ts : List (Origin ℕ)) (met : List (Option ℕ)) (IsAt : ℕ → ℕ → Type 0) (c : Column) : Type 0 where
  pub column : IsColumn (length ts) c
  pub own : (i p : ℕ) → i < length ts → IsAt i p → HasPlace c i p
  pub closed : (i j p : ℕ) → slice_get met i ≡ Some (Some i) → HasPart ts i j → HasPlace c j p → HasPlace c i p
  pub only : (i p : ℕ) → i < length ts → HasPlace c i p → (j : ℕ) × (j < length ts) × IsWithin ts i j × IsAt j p

-- the sets of these roots, of the definitions and of their parts
pub record AreLeads (ts : List (Origin ℕ)) (roots gs ds : List ℕ) (l : code.Leads) : Type 0 where
  pub met : List (Option ℕ)
  pub parts : HasParts ts roots ds met
  pub given_inside : (p : ℕ) → p < length gs → slice_index gs p < length ts
  pub assumptions : IsSpread ts met (IsGiven gs) l.assumptions
  pub definitions : IsSpread ts met (IsMade ts ds) l.definitions
