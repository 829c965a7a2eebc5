-- Places of a list that are chained by what stands there. Only contracts of private functions speak of it.
use Rattle.std.specs.Prelude.{◌≡◌, ℕ, ◌<◌, ◌≤◌, Bool, List, length, slice_get, slice_index_or, Some}
use Rattle.std.specs.Map.{lookup}
use Rattle.ot_kernel.specs.declared.candidates.Part.{Part}
use Rattle.ot_kernel.specs.declared.candidates.Chains.{Chains}
use Rattle.ot_kernel.specs.contracts.candidates.PartPartialEq.TheImpl as derived

-- whether two parts are one
abbrev pub same_part : Part → Part → Bool
same_part = derived.ghosts.eq

-- the place behind i in its chain
abbrev pub next_at : List ℕ → ℕ → ℕ
next_at nexts i = slice_index_or nexts i 0

-- from n on: the first place of a part has it, and no place of the part is before that; the next place of one has the
-- same part, if there is one, and no place of the part is between the two
pub record AreChainedFrom (n : ℕ) (parts : List Part) (firsts : List (Part × ℕ)) (nexts : List ℕ) : Type 0 where
  pub many : length nexts ≡ length parts
  pub first : (j : ℕ) (p : Part) → n ≤ j → slice_get parts j ≡ Some p
      → (f : ℕ) × (lookup (same_part p) firsts ≡ Some f) × (f ≤ j)
  pub first_has : (p : Part) (f : ℕ) → lookup (same_part p) firsts ≡ Some f → (n ≤ f) × (slice_get parts f ≡ Some p)
  pub next : (i j : ℕ) (p : Part) → n ≤ i → i < j → slice_get parts i ≡ Some p → slice_get parts j ≡ Some p
      → next_at nexts i ≤ j
  pub next_has : (i : ℕ) (p : Part) → n ≤ i → slice_get parts i ≡ Some p → next_at nexts i < length parts
      → slice_get parts (next_at nexts i) ≡ Some p
  pub rises : (i : ℕ) → n ≤ i → i < length parts → i < next_at nexts i

abbrev pub AreChained : List Part → Chains → Type 0
AreChained parts c = AreChainedFrom 0 parts c.firsts.entries c.nexts.items
