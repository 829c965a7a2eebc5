-- How far the numbers of names in trees go: one more than the greatest.
use Rattle.std.specs.Prelude.{ℕ, suc, max, List, [], ◌∷◌}
use Rattle.ot_logic.specs.Trees.{Ty, Tys, TyVar, TyOp, NoTys, MoreTys, Named, NVar, NConst, NApp, NAbs}

abbrev mutual
  pub bound_ty : Ty ℕ → ℕ
  bound_ty (TyVar n) = suc n
  bound_ty (TyOp n ts) = max (suc n) (bound_tys ts)

  pub bound_tys : Tys ℕ → ℕ
  bound_tys NoTys = 0
  bound_tys (MoreTys t ts) = max (bound_ty t) (bound_tys ts)

abbrev pub bound_named : Named ℕ → ℕ
bound_named (NVar v) = max (suc v.name) (bound_ty v.ty)
bound_named (NConst n t) = max (suc n) (bound_ty t)
bound_named (NApp f x) = max (bound_named f) (bound_named x)
bound_named (NAbs v b) = max (max (suc v.name) (bound_ty v.ty)) (bound_named b)

-- of all types of a table
abbrev pub names_in : List (Ty ℕ) → ℕ
names_in [] = 0
names_in (t ∷ ts) = max (bound_ty t) (names_in ts)

-- of all terms of a table
abbrev pub names_in_terms : List (Named ℕ) → ℕ
names_in_terms [] = 0
names_in_terms (t ∷ ts) = max (bound_named t) (names_in_terms ts)
