-- Whether a type is one at which `=` is equality.
use Rattle.std.specs.Prelude.{◌↔◌, IsTrue}
use Rattle.std.proofs.Common.{◌≡◌, ℕ, Bool, false, true≢false, List, [], ◌∷◌, refl, sym, ap}
use Rattle.ot_logic.specs.Trees.{Ty, TyOp, NoTys}
use Rattle.ot_logic.specs.Hol.{bool_ty}
use Rattle.ot_logic.specs.Naming.{numbers}
use Rattle.ot_type.specs.TypeTable.{types_at}

-- a test that is false, of what does not hold
pub not_so : {P : Type 0} → (P → ⊥) → IsTrue false ↔ P
not_so never = (λ t. absurd (true≢false (sym t)), λ p. absurd (never p))

-- the type of propositions, by its name and its arguments
pub bool_op : (ts : List (Ty ℕ)) (n : ℕ) (args : List ℕ) (r : Bool) → (IsTrue r ↔ ((n ≡ 1) × (args ≡ [])))
    → IsTrue r ↔ (TyOp n (types_at ts args) ≡ bool_ty numbers)
bool_op ts n [] r h = (λ t. ap (λ m. TyOp m NoTys) (h.0 t).0, λ e. h.1 (cc, refl))
bool_op ts n (i ∷ is) r h = (λ t. let empty : i ∷ is ≡ [] = (h.0 t).1 in cc, λ e. cc)
