-- The tests of trees decide equality, where the test of names does.
use Rattle.std.specs.Prelude.{◌≢◌, ◌==◌}
use Rattle.std.specs.Bool.{Decides}
use Rattle.std.proofs.Common.{◌≡◌, Bool, true, false, List, [], ◌∷◌, Option, Some, None, refl, ap, inl, inr, ◌⊎◌}
use Rattle.std.proofs.lemmas.Bool.Decides.{Decides-and, Decides-or, Decides-like, Decides-eqb, not_from_Decides}
use Rattle.std.proofs.lemmas.Option.{same_Some}
use Rattle.ot_logic.specs.Names.{same_name-Decides}
use Rattle.ot_logic.specs.Naming.{names, numbers}
use Rattle.ot_logic.specs.Trees.{Alphabet, Ty, Tys, TyVar, TyOp, NoTys, MoreTys, Variable, Tm}
use Rattle.ot_logic.specs.Trees.{Free, Con, Bound, App, Abs, Named, NVar, NConst, NApp, NAbs}
use Rattle.ot_logic.specs.Hol.{same_ty, same_tys, same_var, same_tm, type_in, HasType}
use Rattle.ot_logic.specs.Hol.{IsFree, is_free, IsFreeInSome, is_free_in_some}
use Rattle.ot_logic.specs.NamedTerms.{same_named}
use Rattle.ot_logic.specs.Rules.{has_type}

-- the test of names is equality
abbrev pub Tells : {N : Type 0} → Alphabet N → Type 0
Tells {N} alphabet = (x y : N) → Decides (alphabet.same x y) (x ≡ y)

pub tells_numbers : Tells numbers
tells_numbers = Decides-eqb

pub tells_names : Tells names
tells_names = same_name-Decides

-- a test that decides, in its two cases
pub cases_of : {P : Type 0} (b : Bool) → Decides b P → ((b ≡ true) × P) ⊎ ((b ≡ false) × ¬ P)
cases_of true d = inl (refl, d.0 refl)
cases_of false d = inr (refl, not_from_Decides false d refl)

module _ {N : Type 0} (alphabet : Alphabet N) (tells : Tells alphabet) where
  mutual
    pub same_ty-is : (a b : Ty N) → Decides (same_ty alphabet a b) (a ≡ b)
    same_ty-is (TyVar a) (TyVar b) = Decides-like (alphabet.same a b) (ap TyVar) (λ e. cc) (tells a b)
    same_ty-is (TyVar a) (TyOp b us) = (λ h. cc, λ e. cc)
    same_ty-is (TyOp a ts) (TyVar b) = (λ h. cc, λ e. cc)
    same_ty-is (TyOp a ts) (TyOp b us) =
        Decides-like (same_ty alphabet (TyOp a ts) (TyOp b us)) (λ p. λ i. TyOp (p.0 i) (p.1 i)) (λ e. (cc, cc))
        (Decides-and (alphabet.same a b) (same_tys alphabet ts us) (tells a b) (same_tys-is ts us))

    pub same_tys-is : (a b : Tys N) → Decides (same_tys alphabet a b) (a ≡ b)
    same_tys-is NoTys NoTys = (λ h. refl, λ e. refl)
    same_tys-is NoTys (MoreTys u us) = (λ h. cc, λ e. cc)
    same_tys-is (MoreTys t ts) NoTys = (λ h. cc, λ e. cc)
    same_tys-is (MoreTys t ts) (MoreTys u us) =
        Decides-like (same_tys alphabet (MoreTys t ts) (MoreTys u us)) (λ p. λ i. MoreTys (p.0 i) (p.1 i))
        (λ e. (cc, cc))
        (Decides-and (same_ty alphabet t u) (same_tys alphabet ts us) (same_ty-is t u) (same_tys-is ts us))

  pub same_var-is : (v w : Variable N) → Decides (same_var alphabet v w) (v ≡ w)
  same_var-is v w =
      Decides-like (same_var alphabet v w) (λ p. λ i. record { name = p.0 i; ty = p.1 i })
      (λ e. (ap (λ x. x.name) e, ap (λ x. x.ty) e))
      (Decides-and (alphabet.same v.name w.name) (same_ty alphabet v.ty w.ty) (tells v.name w.name)
      (same_ty-is v.ty w.ty))

  pub var_cases : (v w : Variable N) → ((same_var alphabet v w ≡ true) × (v ≡ w))
      ⊎ ((same_var alphabet v w ≡ false) × (v ≢ w))
  var_cases v w = cases_of (same_var alphabet v w) (same_var-is v w)

  pub same_var-no : (v w : Variable N) → v ≢ w → same_var alphabet v w ≡ false
  same_var-no v w h = elim (var_cases v w) [ inl p ↦ absurd (h p.1) | inr p ↦ p.0 ]

  pub same_tm-is : (a b : Tm N) → Decides (same_tm alphabet a b) (a ≡ b)
  same_tm-is (Free v) (Free w) = Decides-like (same_var alphabet v w) (ap Free) (λ e. cc) (same_var-is v w)
  same_tm-is (Con n t) (Con m u) =
      Decides-like (same_tm alphabet (Con n t) (Con m u)) (λ p. λ i. Con (p.0 i) (p.1 i)) (λ e. (cc, cc))
      (Decides-and (alphabet.same n m) (same_ty alphabet t u) (tells n m) (same_ty-is t u))
  same_tm-is (Bound j) (Bound k) = Decides-like (j == k) (ap Bound) (λ e. cc) (Decides-eqb j k)
  same_tm-is (App f x) (App g y) =
      Decides-like (same_tm alphabet (App f x) (App g y)) (λ p. λ i. App (p.0 i) (p.1 i)) (λ e. (cc, cc))
      (Decides-and (same_tm alphabet f g) (same_tm alphabet x y) (same_tm-is f g) (same_tm-is x y))
  same_tm-is (Abs t b) (Abs u c) =
      Decides-like (same_tm alphabet (Abs t b) (Abs u c)) (λ p. λ i. Abs (p.0 i) (p.1 i)) (λ e. (cc, cc))
      (Decides-and (same_ty alphabet t u) (same_tm alphabet b c) (same_ty-is t u) (same_tm-is b c))
  same_tm-is _ _ = (λ h. cc, λ e. cc)

  pub tm_cases : (a b : Tm N) → ((same_tm alphabet a b ≡ true) × (a ≡ b)) ⊎ ((same_tm alphabet a b ≡ false) × (a ≢ b))
  tm_cases a b = cases_of (same_tm alphabet a b) (same_tm-is a b)

  pub same_named-is : (a b : Named N) → Decides (same_named alphabet a b) (a ≡ b)
  same_named-is (NVar v) (NVar w) = Decides-like (same_var alphabet v w) (ap NVar) (λ e. cc) (same_var-is v w)
  same_named-is (NConst n t) (NConst m u) =
      Decides-like (same_named alphabet (NConst n t) (NConst m u)) (λ p. λ i. NConst (p.0 i) (p.1 i)) (λ e. (cc, cc))
      (Decides-and (alphabet.same n m) (same_ty alphabet t u) (tells n m) (same_ty-is t u))
  same_named-is (NApp f x) (NApp g y) =
      Decides-like (same_named alphabet (NApp f x) (NApp g y)) (λ p. λ i. NApp (p.0 i) (p.1 i)) (λ e. (cc, cc))
      (Decides-and (same_named alphabet f g) (same_named alphabet x y) (same_named-is f g) (same_named-is x y))
  same_named-is (NAbs v b) (NAbs w c) =
      Decides-like (same_named alphabet (NAbs v b) (NAbs w c)) (λ p. λ i. NAbs (p.0 i) (p.1 i)) (λ e. (cc, cc))
      (Decides-and (same_var alphabet v w) (same_named alphabet b c) (same_var-is v w) (same_named-is b c))
  same_named-is _ _ = (λ h. cc, λ e. cc)

  pub is_free-is : (v : Variable N) (t : Tm N) → Decides (is_free alphabet v t) (IsFree alphabet v t)
  is_free-is v (Free w) = same_var-is w v
  is_free-is v (Con n t) = (λ h. cc, λ h. absurd h)
  is_free-is v (Bound k) = (λ h. cc, λ h. absurd h)
  is_free-is v (App f x) = Decides-or (is_free alphabet v f) (is_free alphabet v x) (is_free-is v f) (is_free-is v x)
  is_free-is v (Abs t b) = is_free-is v b

  pub is_free_in_some-is : (v : Variable N) (ts : List (Tm N))
      → Decides (is_free_in_some alphabet v ts) (IsFreeInSome alphabet v ts)
  is_free_in_some-is v [] = (λ h. cc, λ h. absurd h)
  is_free_in_some-is v (t ∷ ts) = Decides-or (is_free alphabet v t) (is_free_in_some alphabet v ts) (is_free-is v t)
      (is_free_in_some-is v ts)

  pub has_type-is : (t : Tm N) (ty : Ty N) → Decides (has_type alphabet t ty) (HasType alphabet t ty)
  has_type-is t ty = go (type_in alphabet [] t) refl
    where
      go : (o : Option (Ty N)) → type_in alphabet [] t ≡ o → Decides (has_type alphabet t ty) (HasType alphabet t ty)
      go None e = rw e (λ h. cc, λ h. cc)
      go (Some u) e =
          rw e (Decides-like (same_ty alphabet u ty) (λ p. ap Some p) (λ p. same_Some u ty p) (same_ty-is u ty))
