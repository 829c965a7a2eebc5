-- The open theorems of a type follow from its two theorems.
use Rattle.std.specs.Option.{option_map}
use Rattle.std.proofs.Common.{◌≡◌, ℕ, suc, List, [], ◌∷◌, refl, sym, ap, subst}
use Rattle.std.specs.List.{AllByRecursion}
use Rattle.ot_kernel.specs.Opening.{open_theorems}
use Rattle.ot_logic.specs.Trees.{Alphabet, Ty, Tm, Free, Con, Bound, App, Abs, Sequent, Definition}
use Rattle.ot_logic.specs.Hol.{fun_ty, bool_ty, HasType, open_at, equation}
use Rattle.ot_logic.specs.Hol.{IsWithin, Derivable, Refl, AppThm, BetaConv}
use Rattle.ot_laws.proofs.Tests.{Tells}
use Rattle.ot_laws.proofs.Typing.{app-typed, type-more, within-typed}
use Rattle.ot_laws.proofs.Equations.{equation-typed}
use Rattle.ot_laws.proofs.Derived.{sym-derivable, trans-derivable}
use Rattle.ot_laws.proofs.Opened.{place_below}

module _ {N : Type 0} (alphabet : Alphabet N) (tells : Tells alphabet) where
  open-within : (k : ℕ) (u t : Tm N) → IsWithin alphabet k t → open_at alphabet k u t ≡ t
  open-within k u (Free w) h = refl
  open-within k u (Con n t) h = refl
  open-within k u (Bound j) h = rw (place_below j k h) refl
  open-within k u (App f x) h =
      let p = open-within k u f h.0 in
      let q = open-within k u x h.1 in
      cc
  open-within k u (Abs t b) h = ap (Abs t) (open-within (suc k) u b h)

  abbrev bool : Ty N
  bool = bool_ty alphabet

  module _ (al : List (Sequent N)) (dl : List (Definition N)) where
    abbrev Follows : Tm N → Type 0
    Follows = Derivable alphabet al dl []

    -- two functions of one type that are equal, applied to one term
    pub applied-follow : (a ty : Ty N) (b c : Tm N) (u : Tm N) → HasType alphabet (Abs a b) (fun_ty alphabet a ty)
        → HasType alphabet (Abs a c) (fun_ty alphabet a ty) → HasType alphabet u a
        → Follows (equation alphabet (fun_ty alphabet a ty) (Abs a b) (Abs a c))
        → HasType alphabet (open_at alphabet 0 u b) ty → HasType alphabet (open_at alphabet 0 u c) ty
        → Follows (equation alphabet ty (open_at alphabet 0 u b) (open_at alphabet 0 u c))
    applied-follow a ty b c u p q r e left right =
        let f = app-typed alphabet tells [] (Abs a b) u a ty p r in
        let g = app-typed alphabet tells [] (Abs a c) u a ty q r in
        let l = App (Abs a b) u in
        let k = App (Abs a c) u in
        let s = sym-derivable alphabet tells al dl [] l (open_at alphabet 0 u b) ty f (BetaConv f) in
        let m = AppThm e (Refl r) in
        let t = trans-derivable alphabet tells al dl [] [] (open_at alphabet 0 u b) l k ty left s m in
        trans-derivable alphabet tells al dl [] [] (open_at alphabet 0 u b) k (open_at alphabet 0 u c) ty left t
        (BetaConv g)

    -- the conclusions of the two theorems of a type
    abbrev pub trip_concl : (ty u : Ty N) (abs rep : N) → Tm N
    trip_concl ty u abs rep =
        equation alphabet (fun_ty alphabet ty ty)
        (Abs ty (App (Con abs (fun_ty alphabet u ty)) (App (Con rep (fun_ty alphabet ty u)) (Bound 0))))
        (Abs ty (Bound 0))

    abbrev pub test_concl : (ty u : Ty N) (abs rep : N) → Tm N → Tm N
    test_concl ty u abs rep p =
        equation alphabet (fun_ty alphabet u bool)
        (Abs u (equation alphabet u
        (App (Con rep (fun_ty alphabet ty u)) (App (Con abs (fun_ty alphabet u ty)) (Bound 0))) (Bound 0)))
        (Abs u (App p (Bound 0)))

    -- both open theorems
    pub open-follow : (a r : N) (ty u : Ty N) (abs rep : N) (p : Tm N) → HasType alphabet p (fun_ty alphabet u bool)
        → Follows (trip_concl ty u abs rep) → Follows (test_concl ty u abs rep p)
        → AllByRecursion (λ (s : Sequent N). Derivable alphabet al dl s.hyps s.concl)
        (open_theorems alphabet a r ty u abs rep p)
    open-follow a r ty u abs rep p h first second =
        let c = Con abs (fun_ty alphabet u ty) in
        let g = Con rep (fun_ty alphabet ty u) in
        let x = Free (record { name = a; ty = ty }) in
        let y = Free (record { name = r; ty = u }) in
        let there : HasType alphabet (App c (App g x)) ty =
        app-typed alphabet tells [] c (App g x) u ty refl (app-typed alphabet tells [] g x ty u refl refl) in
        let back : HasType alphabet (App g (App c y)) u =
        app-typed alphabet tells [] g (App c y) ty u refl (app-typed alphabet tells [] c y u ty refl refl) in
        let trip : HasType alphabet (Abs ty (App c (App g (Bound 0)))) (fun_ty alphabet ty ty) =
        ap (option_map (fun_ty alphabet ty)) (app-typed alphabet tells (ty ∷ []) c (App g (Bound 0)) u ty refl
        (app-typed alphabet tells (ty ∷ []) g (Bound 0) ty u refl refl)) in
        let test : HasType alphabet (Abs u (equation alphabet u (App g (App c (Bound 0))) (Bound 0))) (fun_ty alphabet u bool) = ap (option_map (fun_ty alphabet u)) (equation-typed alphabet tells (u ∷ []) u (App g (App c (Bound 0))) (Bound 0) (app-typed alphabet tells (u ∷ []) g (App c (Bound 0)) ty u refl (app-typed alphabet tells (u ∷ []) c (Bound 0) u ty refl refl)) refl) in
        let holds : HasType alphabet (Abs u (App p (Bound 0))) (fun_ty alphabet u bool) =
        ap (option_map (fun_ty alphabet u))
        (app-typed alphabet tells (u ∷ []) p (Bound 0) u bool
        (type-more alphabet tells [] (u ∷ []) p (fun_ty alphabet u bool) h) refl) in
        let same : open_at alphabet 0 y p ≡ p =
        open-within 0 y p (within-typed alphabet tells [] p (fun_ty alphabet u bool) h) in
        let at : HasType alphabet (App p y) bool = app-typed alphabet tells [] p y u bool h refl in
        let opened : HasType alphabet (App (open_at alphabet 0 y p) y) bool =
        subst (λ z. HasType alphabet (App z y) bool) (sym same) at in
        let left = applied-follow ty ty (App c (App g (Bound 0))) (Bound 0) x trip refl refl first there refl in
        let right = applied-follow u bool (equation alphabet u (App g (App c (Bound 0))) (Bound 0)) (App p (Bound 0))
        y test holds refl second (equation-typed alphabet tells [] u (App g (App c y)) y back refl) opened in
        let turned = sym-derivable alphabet tells al dl [] (equation alphabet u (App g (App c y)) y) (App p y) bool
        (equation-typed alphabet tells [] u (App g (App c y)) y back refl)
        (subst (λ z. Follows (equation alphabet bool (equation alphabet u (App g (App c y)) y) (App z y))) same
        right) in
        (left, (turned, tt))
