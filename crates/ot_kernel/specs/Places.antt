-- Assumptions found by their sequents.
use Rattle.std.specs.Prelude.{◌≡◌, ℕ, ◌≤◌, List, length, slice_get, Some, ◌⊎◌}
use Rattle.std.specs.Map.{lookup}
use Rattle.ot_kernel.specs.declared.key.SequentKey.{SequentKey}
use Rattle.ot_kernel.specs.declared.theorem.Theorem.{Theorem}
use Rattle.ot_kernel.specs.Keys.{IsKeyOf, same_key}

-- the key of each assumption has a place, and before the place of a key no assumption has it
pub record ArePlaces (cs : List ℕ) (ths : List Theorem) (is : List ℕ) (ps : List (SequentKey × ℕ)) : Type 0 where
  pub found : (j i : ℕ) (th : Theorem) (k : SequentKey) → slice_get is j ≡ Some i → slice_get ths i ≡ Some th
      → IsKeyOf cs th.hyps th.concl k → (p : ℕ) × (lookup (same_key k) ps ≡ Some p) × (p ≤ j)
  pub within : (k : SequentKey) (p : ℕ) → lookup (same_key k) ps ≡ Some p → p ≤ length is

-- the key has a place, this one where it had none, and the others are as before
pub record IsPlaced (k : SequentKey) (place : ℕ) (old new : List (SequentKey × ℕ)) : Type 0 where
  pub keeps : (l : SequentKey) (p : ℕ) → lookup (same_key l) old ≡ Some p → lookup (same_key l) new ≡ Some p
  pub within : (l : SequentKey) (p : ℕ) → lookup (same_key l) new ≡ Some p
      → (lookup (same_key l) old ≡ Some p) ⊎ (p ≡ place)
  pub found : (p : ℕ) × (lookup (same_key k) new ≡ Some p)
