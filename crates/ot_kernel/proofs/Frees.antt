-- Whether a variable is free in one of the terms, one after another.
use Rattle.std.specs.Prelude.{◌||◌}
use Rattle.std.proofs.Common.{◌≡◌, ℕ, ◌+◌, ◌<◌, Bool, List, length, get_or, drop, sym, ap, ◌∙◌}
use Rattle.ot_logic.specs.Trees.{Variable, Named}
use Rattle.ot_logic.specs.Hol.{is_free, is_free_in_some}
use Rattle.ot_logic.specs.Naming.{numbers}
use Rattle.ot_kernel.specs.Numbered.{tm_at, tms_at}
use Rattle.ot_kernel.proofs.Namings.{map-drop}

-- the next term of a list
pub free_next : (ts : List (Named ℕ)) (v : Variable ℕ) (is : List ℕ) (k i : ℕ) (b : Bool) → k < length is
    → i ≡ get_or is k i → b ≡ is_free numbers v (tm_at ts i)
    → is_free_in_some numbers v (tms_at ts (drop k is))
    ≡ (b || is_free_in_some numbers v (tms_at ts (drop (k + 1) is)))
free_next ts v is k i b h e d = ap (is_free_in_some numbers v) (map-drop (tm_at ts) is k i h e)
    ∙ ap (λ c. c || is_free_in_some numbers v (tms_at ts (drop (k + 1) is))) (sym d)
