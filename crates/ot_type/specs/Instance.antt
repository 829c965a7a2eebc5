-- Instances of the types of a table, by remembered results.
use Rattle.std.specs.Prelude.{◌≡◌, ℕ, ◌<◌, List, length, slice_get, Some, nat_eq}
use Rattle.std.specs.Map.{lookup}
use Rattle.ot_logic.specs.Trees.{Ty}
use Rattle.ot_logic.specs.Hol.{inst}
use Rattle.ot_logic.specs.Naming.{numbers}
use Rattle.ot_type.specs.TypeTable.{type_at, images}

-- the remembered results are those of the substitution
pub record IsMemo (ts : List (Ty ℕ)) (s : List (ℕ × Ty ℕ)) (es : List (ℕ × ℕ)) : Type 0 where
  pub known : (k v : ℕ) → lookup (nat_eq k) es ≡ Some v
      → (k < length ts) × (slice_get ts v ≡ Some (inst numbers s (type_at ts k)))

-- in the table us the number v stands for the instance of the type that the table ts has at k
abbrev pub IsInstance : (ts us : List (Ty ℕ)) → List (ℕ × ℕ) → ℕ → ℕ → Type 0
IsInstance ts us s k v = slice_get us v ≡ Some (inst numbers (images ts s) (type_at ts k))
