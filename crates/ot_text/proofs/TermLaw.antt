-- Under a list of binder types a form is the form of one well typed term; so a text is the text of one.
use Rattle.std.specs.Prelude.{◌≡◌, ℕ, Bool, true, false, cond, List, ◌∷◌, ◌++◌, Option, Some, None, is_some}
use Rattle.std.specs.Option.{unwrap_or}
use Rattle.std.proofs.Common.{refl, sym, ◌∙◌, ap}
use Rattle.ot_logic.specs.Names.{Name}
use Rattle.ot_logic.specs.Naming.{names}
use Rattle.ot_logic.specs.Trees.{Ty, Tm, Free, Con, Bound, App, Abs}
use Rattle.ot_logic.specs.Hol.{fun_ty, bool_ty, type_in, equation, as_equation}
use Rattle.ot_laws.proofs.Tests.{tells_names}
use Rattle.ot_laws.proofs.Typing.{abs-some, applied-some}
use Rattle.ot_laws.proofs.Equations.{as_equation-some}
use Rattle.ot_text.specs.Texts.{is_equation, ty_text, tm_text}
use Rattle.ot_text.proofs.TypeLaw.{ty-onto, ty-inj}
use Rattle.ot_text.specs.Laws.{no_digit}
use Rattle.ot_text.proofs.Forms.{Form, FreeForm, ConForm, BoundForm, EqForm, AppForm}
use Rattle.ot_text.proofs.Forms.{AbsForm, form, argument_form, tm-onto, form-inj}

abbrev equality_ty : Ty Name → Ty Name
equality_ty b = fun_ty names b (fun_ty names b (bool_ty names))

-- the parts of an equation
equation-parts : (t : Tm Name) → is_equation names t ≡ true → (ty : Ty Name) × (a b : Tm Name)
    × (t ≡ equation names ty a b)
equation-parts t h = go (as_equation names t) refl h
  where
    go : (o : Option (Ty Name × Tm Name × Tm Name)) → as_equation names t ≡ o → is_some o ≡ true
        → (ty : Ty Name) × (a b : Tm Name) × (t ≡ equation names ty a b)
    go (Some p) e k = (p.0, p.1, p.2, as_equation-some names tells_names t p.0 p.1 p.2 e)
    go None e k = cc

-- ---- the term of a form
abbrev pub type_under : List (Ty Name) → Tm Name → Ty Name
type_under l t = unwrap_or (type_in names l t) (bool_ty names)

abbrev pub unform : List (Ty Name) → Form → Tm Name
unform l (FreeForm v) = Free v
unform l (ConForm n t) = Con n t
unform l (BoundForm k) = Bound k
unform l (EqForm a b) = equation names (type_under l (unform l a)) (unform l a) (unform l b)
unform l (AppForm f x) = App (unform l f) (unform l x)
unform l (AbsForm t b) = Abs t (unform (t ∷ l) b)

-- `=` at the type of what it is applied to
abbrev head_back : List (Ty Name) → Tm Name → Tm Name
head_back l a = App (Con names.equals (equality_ty (type_under l a))) a

eq-head : (l : List (Ty Name)) (g a x u : Tm Name) (c : Ty Name) → type_in names l (App g a) ≡ Some c → u ≡ a
    → is_equation names (App (App g a) x) ≡ true → head_back l u ≡ App g a
eq-head l g a x u c h hu k =
    let s = applied-some names tells_names (type_in names l g) (type_in names l a) c h in
    let e = equation-parts (App (App g a) x) k in
    let is_g : g ≡ Con names.equals (equality_ty e.0) = let whole = e.3 in cc in
    let typed : Some (equality_ty e.0) ≡ Some (fun_ty names s.0 c) = ap (type_in names l) (sym is_g) ∙ s.1 in
    let one : e.0 ≡ s.0 = cc in
    let under : type_under l u ≡ s.0 = ap (type_under l) hu ∙ ap (λ o. unwrap_or o (bool_ty names)) s.2 in
    let z : equality_ty (type_under l u) ≡ equality_ty e.0 = ap equality_ty (under ∙ sym one) in
    (λ i. App (Con names.equals (z i)) (hu i)) ∙ ap (λ f. App f a) (sym is_g)

app-back : (l : List (Ty Name)) (f x : Tm Name)
    → (is_equation names (App f x) ≡ true → head_back l (unform l (argument_form f)) ≡ f)
    → unform l (form f) ≡ f → unform l (form x) ≡ x → unform l (form (App f x)) ≡ App f x
app-back l f x he hf hx = go (is_equation names (App f x)) refl
  where
    go : (e : Bool) → is_equation names (App f x) ≡ e
        → unform l (cond e (EqForm (argument_form f) (form x)) (AppForm (form f) (form x))) ≡ App f x
    go true k = let q = he k in λ i. App (q i) (hx i)
    go false k = λ i. App (hf i) (hx i)

mutual
  pub form-back : (l : List (Ty Name)) (t : Tm Name) (c : Ty Name) → type_in names l t ≡ Some c
      → unform l (form t) ≡ t
  form-back l (Free v) c h = refl
  form-back l (Con n t) c h = refl
  form-back l (Bound k) c h = refl
  form-back l (App f x) c h =
      let e = applied-some names tells_names (type_in names l f) (type_in names l x) c h in
      app-back l f x (argument-back l x f (fun_ty names e.0 c) e.1) (form-back l f (fun_ty names e.0 c) e.1)
      (form-back l x e.0 e.2)
  form-back l (Abs t b) c h = let e = abs-some names t (type_in names (t ∷ l) b) c h in
      ap (Abs t) (form-back (t ∷ l) b e.0 e.1)

  argument-back : (l : List (Ty Name)) (x f : Tm Name) (c : Ty Name) → type_in names l f ≡ Some c
      → is_equation names (App f x) ≡ true → head_back l (unform l (argument_form f)) ≡ f
  argument-back l x (App g a) c h k =
      let e = applied-some names tells_names (type_in names l g) (type_in names l a) c h in
      eq-head l g a x (unform l (form a)) c h (form-back l a e.0 e.2) k
  argument-back l x _ c h k = cc

-- ---- the law
pub ty_text-inj : (t u : Ty Name) (r s : List ℕ) → ty_text t ++ r ≡ ty_text u ++ s → (t ≡ u) × (r ≡ s)
ty_text-inj t u r s p = ty-inj t u r s (sym (ty-onto t r) ∙ p ∙ ty-onto u s)

pub tm_text-inj : (l : List (Ty Name)) (t u : Tm Name) (a b : Ty Name) (r s : List ℕ) → type_in names l t ≡ Some a
    → type_in names l u ≡ Some b
    → no_digit r ≡ true → no_digit s ≡ true → tm_text t ++ r ≡ tm_text u ++ s → (t ≡ u) × (r ≡ s)
tm_text-inj l t u a b r s ha hb h k p =
    let e = form-inj (form t) (form u) r s h k (sym (tm-onto t r) ∙ p ∙ tm-onto u s) in
    (sym (form-back l t a ha) ∙ ap (unform l) e.0 ∙ form-back l u b hb, e.1)
