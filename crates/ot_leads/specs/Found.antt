-- What a root leads to: places in a list of assumptions and in a list of definitions.
use Rattle.std.specs.Prelude.{◌≢◌, ◌↔◌, ℕ, ◌<◌, List, [], ◌∷◌, length, map, slice_index}
use Rattle.std.specs.List.Sorted.{IsStrictlyIncreasing}
use Rattle.ot_logic.specs.Lists.{IsMember}
use Rattle.ot_trace.specs.Origins.{Origin}
use Rattle.ot_trace.specs.Reach.{IsReached}
use Rattle.ot_trace.specs.Trace.{origin_at}
use Rattle.ot_leads.specs.declared.finding.Uses.{Uses}

-- the root leads to the step, by operands and by the definitions of theorems and symbols
abbrev pub IsFrom : List (Origin ℕ) → List ℕ → ℕ → ℕ → Type 0
IsFrom ts ds root i = IsReached (origin_at ts root ∷ []) (map (origin_at ts) ds) (origin_at ts i)

-- no earlier place has the same number
abbrev pub IsFirst : List ℕ → ℕ → Type 0
IsFirst is p = (q : ℕ) → q < p → slice_index is q ≢ slice_index is p

-- in rising order the places of the assumptions that the root leads to, and the first places of the definitions
pub record AreUses (ts : List (Origin ℕ)) (gs ds : List ℕ) (root : ℕ) (u : Uses) : Type 0 where
  pub assumptions_rise : IsStrictlyIncreasing u.assumptions.items
  pub assumptions : (p : ℕ) → IsMember p u.assumptions.items
      ↔ ((p < length gs) × IsFrom ts ds root (slice_index gs p))
  pub definitions_rise : IsStrictlyIncreasing u.definitions.items
  pub definitions : (p : ℕ) → IsMember p u.definitions.items
      ↔ ((p < length ds) × IsFirst ds p × IsFrom ts ds root (slice_index ds p))
