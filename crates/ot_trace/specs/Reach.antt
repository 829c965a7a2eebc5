-- What roots lead to.
use Rattle.std.specs.Prelude.{◌≡◌, ◌↔◌, ℕ, ◌<◌, Bool, true, List, length, map, slice_get, Some}
use Rattle.ot_logic.specs.Lists.{IsMember}
use Rattle.ot_trace.specs.Origins.{Origin, Outcome, operands, symbols}
use Rattle.ot_trace.specs.Trace.{origin_at}

-- what roots lead to: operands, the definition of a theorem, and the definitions of a symbol
pub data IsReached {N : Type 0} (roots ds : List (Origin N)) : Origin N → Type 0 where
  Root : (o : Origin N) → IsMember o roots → IsReached roots ds o
  Operand : (o p : Origin N) → IsReached roots ds o → IsMember p (operands o) → IsReached roots ds p
  OfTheorem : (j : ℕ) (d : Origin N) → IsReached roots ds (Outcome j d) → IsReached roots ds d
  OfSymbol : (o d : Origin N) → IsReached roots ds o → IsMember d ds → IsMember o (symbols d) → IsReached roots ds d

-- a place holds `true`
abbrev pub IsMarked : List Bool → ℕ → Type 0
IsMarked marks i = slice_get marks i ≡ Some true

-- exactly what the roots lead to is marked
pub record MarksReached (ts : List (Origin ℕ)) (roots ds : List ℕ) (marks : List Bool) : Type 0 where
  pub length_is : length marks ≡ length ts
  pub marked : (i : ℕ) → i < length ts → IsMarked marks i ↔ IsReached (map (origin_at ts) roots)
      (map (origin_at ts) ds) (origin_at ts i)
