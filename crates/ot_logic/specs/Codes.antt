-- Codes of the trees, which a model's value needs: each tree as a tree of numbers, over names that have a code.
use Rattle.std.specs.Prelude.{◌≡◌, ℕ, List, refl, ◌⊎◌}
use Rattle.std.specs.Coded.{Coded, code_by, coded×, coded⊎, coded_ℕ, coded_list}
use Rattle.std.proofs.Common.{inl, inr}
use base.Stored.{Gv, gnil, gnum, gcons, num}
use mathlib.Core.Path.{ap, subst}
use lib.Dec.{T, eqb}
use Rattle.ot_logic.specs.Names.{Name}
use Rattle.ot_logic.specs.Trees.{Ty, Tys, TyVar, TyOp, NoTys, MoreTys, Variable, Tm, Free, Con, Bound, App, Abs}
use Rattle.ot_logic.specs.Trees.{Named, NVar, NConst, NApp, NAbs, Sequent, Definition, ConDef, ListDef, TyDef}

abbrev first : Gv → Gv
first (gcons a b) = a
first g = gnil

abbrev rest : Gv → Gv
rest (gcons a b) = b
rest g = gnil

abbrev tag : Gv → ℕ
tag g = num (first g)

abbrev pub coded_name : Coded Name
coded_name = coded_list (coded_list coded_ℕ)

module _ {N : Type 0} (letter : Coded N) where
  abbrev mutual
    pub code_ty : Ty N → Gv
    code_ty (TyVar n) = gcons (gnum 0) (letter.code n)
    code_ty (TyOp n ts) = gcons (gnum 1) (gcons (letter.code n) (code_tys ts))

    pub code_tys : Tys N → Gv
    code_tys NoTys = gcons (gnum 0) gnil
    code_tys (MoreTys t ts) = gcons (gnum 1) (gcons (code_ty t) (code_tys ts))

  mutual
    pub ty_inj : (x y : Ty N) → code_ty x ≡ code_ty y → x ≡ y
    ty_inj (TyVar n) (TyVar m) p = ap TyVar (letter.inj n m (ap rest p))
    ty_inj (TyOp n ts) (TyOp m us) p =
        λ i. TyOp (letter.inj n m (ap (λ g. first (rest g)) p) i) (tys_inj ts us (ap (λ g. rest (rest g)) p) i)
    ty_inj x y p = absurd (subst (λ g. T (eqb (tag g) (tag (code_ty x)))) p tt)

    pub tys_inj : (x y : Tys N) → code_tys x ≡ code_tys y → x ≡ y
    tys_inj NoTys NoTys p = refl
    tys_inj (MoreTys t ts) (MoreTys u us) p =
        λ i. MoreTys (ty_inj t u (ap (λ g. first (rest g)) p) i) (tys_inj ts us (ap (λ g. rest (rest g)) p) i)
    tys_inj x y p = absurd (subst (λ g. T (eqb (tag g) (tag (code_tys x)))) p tt)

  abbrev pub coded_ty : Coded (Ty N)
  coded_ty = record { code = code_ty; inj = ty_inj }

  abbrev pub coded_variable : Coded (Variable N)
  coded_variable = code_by (N × Ty N) (coded× letter coded_ty) (λ v. (v.name, v.ty))
      (λ p. record { name = p.0; ty = p.1 }) (λ _. refl)

  abbrev pub code_tm : Tm N → Gv
  code_tm (Free v) = gcons (gnum 0) (coded_variable.code v)
  code_tm (Con n t) = gcons (gnum 1) (gcons (letter.code n) (code_ty t))
  code_tm (Bound k) = gcons (gnum 2) (gnum k)
  code_tm (App f x) = gcons (gnum 3) (gcons (code_tm f) (code_tm x))
  code_tm (Abs t b) = gcons (gnum 4) (gcons (code_ty t) (code_tm b))

  pub tm_inj : (x y : Tm N) → code_tm x ≡ code_tm y → x ≡ y
  tm_inj (Free v) (Free w) p = ap Free (coded_variable.inj v w (ap rest p))
  tm_inj (Con n t) (Con m u) p =
      λ i. Con (letter.inj n m (ap (λ g. first (rest g)) p) i) (ty_inj t u (ap (λ g. rest (rest g)) p) i)
  tm_inj (Bound j) (Bound k) p = ap (λ g. Bound (num (rest g))) p
  tm_inj (App f x) (App g y) p =
      λ i. App (tm_inj f g (ap (λ g. first (rest g)) p) i) (tm_inj x y (ap (λ g. rest (rest g)) p) i)
  tm_inj (Abs t b) (Abs u c) p =
      λ i. Abs (ty_inj t u (ap (λ g. first (rest g)) p) i) (tm_inj b c (ap (λ g. rest (rest g)) p) i)
  tm_inj x y p = absurd (subst (λ g. T (eqb (tag g) (tag (code_tm x)))) p tt)

  abbrev pub coded_tm : Coded (Tm N)
  coded_tm = record { code = code_tm; inj = tm_inj }

  abbrev pub code_named : Named N → Gv
  code_named (NVar v) = gcons (gnum 0) (coded_variable.code v)
  code_named (NConst n t) = gcons (gnum 1) (gcons (letter.code n) (code_ty t))
  code_named (NApp f x) = gcons (gnum 2) (gcons (code_named f) (code_named x))
  code_named (NAbs v b) = gcons (gnum 3) (gcons (coded_variable.code v) (code_named b))

  pub named_inj : (x y : Named N) → code_named x ≡ code_named y → x ≡ y
  named_inj (NVar v) (NVar w) p = ap NVar (coded_variable.inj v w (ap rest p))
  named_inj (NConst n t) (NConst m u) p =
      λ i. NConst (letter.inj n m (ap (λ g. first (rest g)) p) i) (ty_inj t u (ap (λ g. rest (rest g)) p) i)
  named_inj (NApp f x) (NApp g y) p =
      λ i. NApp (named_inj f g (ap (λ g. first (rest g)) p) i) (named_inj x y (ap (λ g. rest (rest g)) p) i)
  named_inj (NAbs v b) (NAbs w c) p = λ i. NAbs (coded_variable.inj v w (ap (λ g. first (rest g)) p) i)
      (named_inj b c (ap (λ g. rest (rest g)) p) i)
  named_inj x y p = absurd (subst (λ g. T (eqb (tag g) (tag (code_named x)))) p tt)

  abbrev pub coded_named : Coded (Named N)
  coded_named = record { code = code_named; inj = named_inj }

  abbrev pub coded_sequent : Coded (Sequent N)
  coded_sequent = code_by (List (Tm N) × Tm N) (coded× (coded_list coded_tm) coded_tm) (λ q. (q.hyps, q.concl))
      (λ p. record { hyps = p.0; concl = p.1 }) (λ _. refl)

  -- a definition is stored as one of three tuples
  abbrev Parts : Type 0
  Parts = (N × Tm N) ⊎ ((List (N × Variable N) × Sequent N) ⊎ (N × (N × (N × (List N × Sequent N)))))

  abbrev parts_of : Definition N → Parts
  parts_of (ConDef n t) = inl (n, t)
  parts_of (ListDef ps q) = inr (inl (ps, q))
  parts_of (TyDef n abs rep vs q) = inr (inr (n, (abs, (rep, (vs, q)))))

  abbrev definition_of : Parts → Definition N
  definition_of (inl p) = ConDef p.0 p.1
  definition_of (inr (inl p)) = ListDef p.0 p.1
  definition_of (inr (inr p)) = TyDef p.0 p.1.0 p.1.1.0 p.1.1.1.0 p.1.1.1.1

  pub definition_of-parts_of : (d : Definition N) → definition_of (parts_of d) ≡ d
  definition_of-parts_of (ConDef n t) = refl
  definition_of-parts_of (ListDef ps q) = refl
  definition_of-parts_of (TyDef n abs rep vs q) = refl

  abbrev pub coded_definition : Coded (Definition N)
  coded_definition =
      code_by Parts
      (coded⊎ (coded× letter coded_tm) (coded⊎ (coded× (coded_list (coded× letter coded_variable)) coded_sequent)
      (coded× letter (coded× letter (coded× letter (coded× (coded_list letter) coded_sequent))))))
      parts_of definition_of definition_of-parts_of
