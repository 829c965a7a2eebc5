-- The numbers of names in a table of types.
use Rattle.std.specs.Prelude.{ℕ, zero, suc, ◌<◌, ◌≤◌, max, List, [], ◌∷◌, ◌++◌, length}
use Rattle.std.specs.List.{All}
use Rattle.std.proofs.Common.{arith}
use Rattle.std.proofs.lemmas.List.Elements.{All-head, All-tail}
use Rattle.ot_logic.specs.Trees.{Ty}
use Rattle.ot_logic.specs.Bounds.{bound_ty, bound_tys, names_in}
use Rattle.ot_type.specs.TypeTable.{type_at, types_at}

pub names_in-push : (ts : List (Ty ℕ)) (t : Ty ℕ) → names_in (ts ++ t ∷ []) ≤ max (names_in ts) (bound_ty t)
names_in-push [] t = omega arith
names_in-push (x ∷ ts) t = omega (arith, names_in-push ts t)

pub bound_ty-type_at : (ts : List (Ty ℕ)) (i : ℕ) → i < length ts → bound_ty (type_at ts i) ≤ names_in ts
bound_ty-type_at [] i h = let no : ⊥ = omega arith in absurd no
bound_ty-type_at (t ∷ ts) zero h = omega arith
bound_ty-type_at (t ∷ ts) (suc i) h = omega (arith, bound_ty-type_at ts i (omega arith))

pub bound_tys-types_at : (ts : List (Ty ℕ)) (is : List ℕ) → All (λ i. i < length ts) is → bound_tys (types_at ts is)
    ≤ names_in ts
bound_tys-types_at ts [] h = omega arith
bound_tys-types_at ts (i ∷ is) h =
    omega (
      arith,
      bound_ty-type_at ts i (All-head (λ i. i < length ts) i is h),
      bound_tys-types_at ts is
          (All-tail (λ i. i < length ts) i is h),
    )
