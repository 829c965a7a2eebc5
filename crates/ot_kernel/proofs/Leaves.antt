-- Constants in the place of variables of their types: the term keeps its depth and its types.
use Rattle.std.specs.Prelude.{nat_le, ◌&&◌}
use Rattle.std.specs.Option.{option_map}
use Rattle.std.proofs.Common.{◌≡◌, suc, max, List, [], ◌∷◌, Some, refl, sym, ap, subst, ◌∙◌, ◌⊎◌, inl, inr}
use Rattle.ot_logic.specs.Trees.{Alphabet, Ty, TyVar, Variable, Tm, Free, Con, Bound, App, Abs}
use Rattle.ot_logic.specs.Hol.{depth_limit, fun_ty, type_in, applied, inst_var, bind, term_at, subst_tm}
use Rattle.ot_logic.specs.Hol.{depth_tm, is_shallow_type, has_shallow_types, is_shallow, constants_for}
use Rattle.ot_laws.proofs.Tests.{Tells, var_cases}
use Rattle.ot_laws.proofs.Terms.{inst_by-id}
use Rattle.ot_laws.proofs.Opened.{inst_var-nil}

-- the variable, or a constant of its type
abbrev IsLeaf : {N : Type 0} → Variable N → Tm N → Type 0
IsLeaf {N} v t = (t ≡ Free v) ⊎ ((n : N) × (t ≡ Con n v.ty))

module _ {N : Type 0} (alphabet : Alphabet N) where
  module _ (s : Variable N → Tm N) (leaf : (v : Variable N) → IsLeaf v (s v)) where
    abbrev put : Tm N → Tm N
    put = bind alphabet TyVar s

    depth-put : (t : Tm N) → depth_tm alphabet (put t) ≡ depth_tm alphabet t
    depth-put (Free v) = elim (leaf v) [ inl p ↦ ap (depth_tm alphabet) p | inr (n, p) ↦ ap (depth_tm alphabet) p ]
    depth-put (Con n t) = refl
    depth-put (Bound k) = refl
    depth-put (App f x) = λ i. suc (max (depth-put f i) (depth-put x i))
    depth-put (Abs t b) = ap suc (depth-put b)

    type-put : (l : List (Ty N)) (t : Tm N) → type_in alphabet l (put t) ≡ type_in alphabet l t
    type-put l (Free v) = elim (leaf v) [ inl p ↦ ap (type_in alphabet l) p | inr (n, p) ↦ ap (type_in alphabet l) p ]
    type-put l (Con n t) = ap Some (inst_by-id alphabet t)
    type-put l (Bound k) = refl
    type-put l (App f x) = λ i. applied alphabet (type-put l f i) (type-put l x i)
    type-put l (Abs t b) =
        let same = inst_by-id alphabet t in
        (λ i. option_map (fun_ty alphabet (same i)) (type_in alphabet (same i ∷ l) (put b)))
        ∙ ap (option_map (fun_ty alphabet t)) (type-put (t ∷ l) b)

    types-put : (l : List (Ty N)) (t : Tm N) → has_shallow_types alphabet l (put t) ≡ has_shallow_types alphabet l t
    types-put l (Free v) =
        elim (leaf v)
        [ inl p ↦ ap (has_shallow_types alphabet l) p | inr (n, p) ↦ ap (has_shallow_types alphabet l) p ]
    types-put l (Con n t) = ap (is_shallow_type alphabet) (type-put l (Con n t))
    types-put l (Bound k) = refl
    types-put l (App f x) = λ i. is_shallow_type alphabet (type-put l (App f x) i)
        && (types-put l f i && types-put l x i)
    types-put l (Abs t b) =
        let same = inst_by-id alphabet t in
        (λ i. is_shallow_type alphabet (type_in alphabet l (Abs (same i) (put b)))
        && has_shallow_types alphabet (same i ∷ l) (put b))
        ∙ (λ i. is_shallow_type alphabet (option_map (fun_ty alphabet t) (type-put (t ∷ l) b i))
        && types-put (t ∷ l) b i)

    shallow-put : (t : Tm N) → is_shallow alphabet (put t) ≡ is_shallow alphabet t
    shallow-put t = λ i. nat_le (depth-put t i) depth_limit && types-put [] t i

module _ {N : Type 0} (alphabet : Alphabet N) (tells : Tells alphabet) where
  constant-leaf : (ps : List (N × Variable N)) (v : Variable N)
      → IsLeaf v (term_at alphabet (constants_for alphabet ps) v)
  constant-leaf [] v = inl refl
  constant-leaf (p ∷ ps) v = elim (var_cases alphabet tells v p.1) [
    | inl q ↦ rw q.0 (inr (p.0, ap (λ (w : Variable N). Con p.0 w.ty) (sym q.1)))
    | inr q ↦ rw q.0 (constant-leaf ps v)
  ]

  -- so it is within the nesting limit where the term is
  pub shallow-constants : (ps : List (N × Variable N)) (t : Tm N)
      → is_shallow alphabet (subst_tm alphabet [] (constants_for alphabet ps) t) ≡ is_shallow alphabet t
  shallow-constants ps t =
      shallow-put alphabet (λ v. term_at alphabet (constants_for alphabet ps) (inst_var alphabet [] v))
      (λ v. subst (λ w. IsLeaf v (term_at alphabet (constants_for alphabet ps) w)) (sym (inst_var-nil alphabet v))
      (constant-leaf ps v)) t
