-- Theorems of a list found by their sequents.
use Rattle.std.specs.Prelude.{◌≡◌, ℕ, ◌<◌, ◌≤◌, false, List, length, take, slice_get, Option, Some, None}
use Rattle.std.specs.List.{All}
use Rattle.std.specs.Map.{lookup}
use Rattle.ot_logic.specs.Names.{Name}
use Rattle.ot_logic.specs.Trees.{Sequent}
use Rattle.ot_logic.specs.Hol.{same_sequent}
use Rattle.ot_logic.specs.Naming.{names}
use Rattle.ot_kernel.specs.declared.key.SequentKey.{SequentKey}
use Rattle.ot_kernel.specs.Keys.{IsKeyOf, same_key}
use Rattle.ot_kernel.specs.State.{State, sequent_at}

-- the key of q has a place that is no later than j
pub record HasPlace (s : State) (places : List (SequentKey × ℕ)) (j : ℕ) (q : Sequent Name) : Type 0 where
  pub hyps : List ℕ
  pub concl : ℕ
  pub hyps_within : All (λ i. i < length s.terms) hyps
  pub within : concl < length s.terms
  pub classed : All (λ i. i < length s.classes) hyps
  pub is : sequent_at s hyps concl ≡ q
  pub key : SequentKey
  pub keyed : IsKeyOf s.classes hyps concl key
  pub place : ℕ
  pub found : lookup (same_key key) places ≡ Some place
  pub first : place ≤ j

-- the key of each of these sequents has a place, which is no later than the sequent
pub record AreFirstPlaces (s : State) (qs : List (Sequent Name)) (places : List (SequentKey × ℕ)) : Type 0 where
  pub found : (j : ℕ) (q : Sequent Name) → slice_get qs j ≡ Some q → HasPlace s places j q
  pub within : (k : SequentKey) (place : ℕ) → lookup (same_key k) places ≡ Some place → place ≤ length qs

-- q isn't one of these before the place, and isn't one of them where there is none
abbrev pub IsFirstPlace : List (Sequent Name) → Sequent Name → Option ℕ → Type 0
IsFirstPlace qs q None = All (λ r. same_sequent names q r ≡ false) qs
IsFirstPlace qs q (Some place) = (place ≤ length qs) × All (λ r. same_sequent names q r ≡ false) (take place qs)
