-- What a term looks like in print, with equations apart: the text followed by further bytes gives back the form and
-- these bytes.
use Rattle.std.specs.Prelude.{◌≡◌, ℕ, ◌==◌, Bool, true, false, cond, ◌||◌, List, [], ◌∷◌, ◌++◌, codes}
use Rattle.std.proofs.Common.{refl, sym, ap, subst, append_assoc}
use Rattle.ot_logic.specs.Names.{Name}
use Rattle.ot_logic.specs.Trees.{Ty, Variable, Tm, Free, Con, Bound, App, Abs}
use Rattle.ot_logic.specs.Naming.{names}
use Rattle.ot_text.specs.Texts.{name_text, number_text, ty_text, is_equation, tm_text, argument_text}
use Rattle.ot_text.proofs.Spelling.{name_onto, name-onto, name-inj, apart, tail-same}
use Rattle.ot_text.proofs.TypeLaw.{ty_onto, ty-onto, ty-inj}
use Rattle.ot_text.specs.Laws.{no_digit}
use Rattle.ot_text.proofs.Numbers.{number-inj}

pub data Form : Type 0 where
  FreeForm : Variable Name → Form
  ConForm : Name → Ty Name → Form
  BoundForm : ℕ → Form
  EqForm : Form → Form → Form
  AppForm : Form → Form → Form
  AbsForm : Ty Name → Form → Form

abbrev mutual
  pub form : Tm Name → Form
  form (Free v) = FreeForm v
  form (Con n t) = ConForm n t
  form (Bound k) = BoundForm k
  form (App f x) = cond (is_equation names (App f x)) (EqForm (argument_form f) (form x)) (AppForm (form f) (form x))
  form (Abs t b) = AbsForm t (form b)

  pub argument_form : Tm Name → Form
  argument_form (Free v) = BoundForm 0
  argument_form (Con n t) = BoundForm 0
  argument_form (Bound k) = BoundForm 0
  argument_form (App f x) = form x
  argument_form (Abs t b) = BoundForm 0

-- the text of a form, followed by r
abbrev pub onto : Form → List ℕ → List ℕ
onto (FreeForm v) r = name_onto v.name (58 ∷ ty_onto v.ty r)
onto (ConForm n t) r = 64 ∷ name_onto n (58 ∷ ty_onto t r)
onto (BoundForm k) r = 35 ∷ number_text k ++ r
onto (EqForm a b) r = 40 ∷ onto a (32 ∷ 61 ∷ 32 ∷ onto b (41 ∷ r))
onto (AppForm f x) r = 40 ∷ onto f (32 ∷ onto x (41 ∷ r))
onto (AbsForm t b) r = 40 ∷ 92 ∷ ty_onto t (46 ∷ 32 ∷ onto b (41 ∷ r))

-- ---- the texts, followed by r
free-text : (n : Name) (t : Ty Name) (r : List ℕ) → (name_text n ++ codes ":" ++ ty_text t) ++ r
    ≡ name_onto n (58 ∷ ty_onto t r)
free-text n t r = simp append_assoc (simp (ty-onto, name-onto))

con-text : (n : Name) (t : Ty Name) (r : List ℕ) → (codes "@" ++ name_text n ++ codes ":" ++ ty_text t) ++ r ≡ 64
    ∷ name_onto n (58 ∷ ty_onto t r)
con-text n t r = simp append_assoc (simp (ty-onto, name-onto))

bound-text : (k : ℕ) (r : List ℕ) → (codes "#" ++ number_text k) ++ r ≡ 35 ∷ number_text k ++ r
bound-text k r = refl

app-text : (f x : List ℕ) (g y : List ℕ → List ℕ) (r : List ℕ) → ((r : List ℕ) → f ++ r ≡ g r)
    → ((r : List ℕ) → x ++ r ≡ y r)
    → (codes "(" ++ f ++ codes " " ++ x ++ codes ")") ++ r ≡ 40 ∷ g (32 ∷ y (41 ∷ r))
app-text f x g y r hf hx = simp append_assoc (simp (hf, hx))

eq-text : (f x : List ℕ) (g y : List ℕ → List ℕ) (r : List ℕ) → ((r : List ℕ) → f ++ r ≡ g r)
    → ((r : List ℕ) → x ++ r ≡ y r)
    → (codes "(" ++ f ++ codes " = " ++ x ++ codes ")") ++ r ≡ 40 ∷ g (32 ∷ 61 ∷ 32 ∷ y (41 ∷ r))
eq-text f x g y r hf hx = simp append_assoc (simp (hf, hx))

abs-text : (t : Ty Name) (x : List ℕ) (y : List ℕ → List ℕ) (r : List ℕ) → ((r : List ℕ) → x ++ r ≡ y r)
    → (codes "(\\" ++ ty_text t ++ codes ". " ++ x ++ codes ")") ++ r ≡ 40 ∷ 92 ∷ ty_onto t (46 ∷ 32 ∷ y (41 ∷ r))
abs-text t x y r hx = simp append_assoc (simp (ty-onto, hx))

-- an application, by the texts of its parts
whole-app : (f x : Tm Name) → ((r : List ℕ) → tm_text f ++ r ≡ onto (form f) r)
    → (is_equation names (App f x) ≡ true → (r : List ℕ) → argument_text f ++ r ≡ onto (argument_form f) r)
    → ((r : List ℕ) → tm_text x ++ r ≡ onto (form x) r) → (r : List ℕ)
    → tm_text (App f x) ++ r ≡ onto (form (App f x)) r
whole-app f x hf ha hx r = go (is_equation names (App f x)) refl where
  go : (e : Bool) → is_equation names (App f x) ≡ e
      → cond e (codes "(" ++ argument_text f ++ codes " = " ++ tm_text x ++ codes ")")
      (codes "(" ++ tm_text f ++ codes " " ++ tm_text x ++ codes ")") ++ r
      ≡ onto (cond e (EqForm (argument_form f) (form x)) (AppForm (form f) (form x))) r
  go true k = eq-text (argument_text f) (tm_text x) (onto (argument_form f)) (onto (form x)) r (ha k) hx
  go false k = app-text (tm_text f) (tm_text x) (onto (form f)) (onto (form x)) r hf hx

mutual
  pub tm-onto : (t : Tm Name) (r : List ℕ) → tm_text t ++ r ≡ onto (form t) r
  tm-onto (Free v) r = free-text v.name v.ty r
  tm-onto (Con n t) r = con-text n t r
  tm-onto (Bound k) r = bound-text k r
  tm-onto (App f x) r = whole-app f x (tm-onto f) (argument-onto x f) (tm-onto x) r
  tm-onto (Abs t b) r = abs-text t (tm_text b) (onto (form b)) r (tm-onto b)

  argument-onto : (x f : Tm Name) → is_equation names (App f x) ≡ true → (r : List ℕ)
      → argument_text f ++ r ≡ onto (argument_form f) r
  argument-onto y (Free v) h r = cc
  argument-onto y (Con n t) h r = cc
  argument-onto y (Bound k) h r = cc
  argument-onto y (App f x) h r = tm-onto x r
  argument-onto y (Abs t b) h r = cc

-- ---- back
-- the byte begins a term's text
abbrev pub starts_term : List ℕ → Bool
starts_term [] = false
starts_term (c ∷ cs) = (c == 33) || (c == 34) || (c == 35) || (c == 40) || (c == 64)

starts-name : (n : Name) (r : List ℕ) → starts_term (name_onto n r) ≡ true
starts-name [] r = refl
starts-name (c ∷ cs) r = refl

pub starts : (t : Form) (r : List ℕ) → starts_term (onto t r) ≡ true
starts (FreeForm v) r = starts-name v.name _
starts (ConForm n t) r = refl
starts (BoundForm k) r = refl
starts (EqForm a b) r = refl
starts (AppForm f x) r = refl
starts (AbsForm t b) r = refl

-- a term's text begins with none of the other bytes
pub no-term : (t : Form) (r : List ℕ) (c : ℕ) (x : List ℕ) → starts_term (c ∷ x) ≡ false → onto t r ≡ c ∷ x → ⊥
no-term t r c x h p = let w : starts_term (c ∷ x) ≡ true = subst (λ z. starts_term z ≡ true) p (starts t r) in cc

-- a name_text begins with none but two bytes
name-apart : (n : Name) (r : List ℕ) (c : ℕ) (x : List ℕ) → (33 == c) ≡ false → (34 == c) ≡ false
    → name_onto n r ≡ c ∷ x → ⊥
name-apart [] r c x h k p = apart 33 c _ _ h p
name-apart (d ∷ ds) r c x h k p = apart 34 c _ _ k p

pub tail : (c : ℕ) {x y : List ℕ} → c ∷ x ≡ c ∷ y → x ≡ y
tail c {x} {y} p = tail-same c c x y p

pub form-inj : (t u : Form) (r s : List ℕ) → no_digit r ≡ true → no_digit s ≡ true → onto t r ≡ onto u s
    → (t ≡ u) × (r ≡ s)
form-inj (FreeForm v) (FreeForm w) r s h k p =
    let n = name-inj v.name w.name _ _ p in
    let t = ty-inj v.ty w.ty r s (tail 58 n.1) in
    (λ i. FreeForm (record { name = n.0 i; ty = t.0 i }), t.1)
form-inj (FreeForm v) (ConForm n t) r s h k p = absurd (name-apart v.name _ 64 _ refl refl p)
form-inj (FreeForm v) (BoundForm j) r s h k p = absurd (name-apart v.name _ 35 _ refl refl p)
form-inj (FreeForm v) (EqForm a b) r s h k p = absurd (name-apart v.name _ 40 _ refl refl p)
form-inj (FreeForm v) (AppForm a b) r s h k p = absurd (name-apart v.name _ 40 _ refl refl p)
form-inj (FreeForm v) (AbsForm a b) r s h k p = absurd (name-apart v.name _ 40 _ refl refl p)
form-inj (ConForm n t) (FreeForm v) r s h k p = absurd (name-apart v.name _ 64 _ refl refl (sym p))
form-inj (ConForm n t) (ConForm m u) r s h k p =
    let e = name-inj n m _ _ (tail 64 p) in
    let f = ty-inj t u r s (tail 58 e.1) in
    (λ i. ConForm (e.0 i) (f.0 i), f.1)
form-inj (ConForm n t) (BoundForm j) r s h k p = absurd (apart 64 35 _ _ refl p)
form-inj (ConForm n t) (EqForm a b) r s h k p = absurd (apart 64 40 _ _ refl p)
form-inj (ConForm n t) (AppForm a b) r s h k p = absurd (apart 64 40 _ _ refl p)
form-inj (ConForm n t) (AbsForm a b) r s h k p = absurd (apart 64 40 _ _ refl p)
form-inj (BoundForm j) (FreeForm v) r s h k p = absurd (name-apart v.name _ 35 _ refl refl (sym p))
form-inj (BoundForm j) (ConForm n t) r s h k p = absurd (apart 35 64 _ _ refl p)
form-inj (BoundForm j) (BoundForm l) r s h k p = let e = number-inj j l r s h k (tail 35 p) in (ap BoundForm e.0, e.1)
form-inj (BoundForm j) (EqForm a b) r s h k p = absurd (apart 35 40 _ _ refl p)
form-inj (BoundForm j) (AppForm a b) r s h k p = absurd (apart 35 40 _ _ refl p)
form-inj (BoundForm j) (AbsForm a b) r s h k p = absurd (apart 35 40 _ _ refl p)
form-inj (EqForm a b) (FreeForm v) r s h k p = absurd (name-apart v.name _ 40 _ refl refl (sym p))
form-inj (EqForm a b) (ConForm n t) r s h k p = absurd (apart 40 64 _ _ refl p)
form-inj (EqForm a b) (BoundForm j) r s h k p = absurd (apart 40 35 _ _ refl p)
form-inj (EqForm a b) (EqForm c d) r s h k p =
    let e = form-inj a c _ _ refl refl (tail 40 p) in
    let f = form-inj b d _ _ refl refl (tail 32 (tail 61 (tail 32 e.1))) in
    (λ i. EqForm (e.0 i) (f.0 i), tail 41 f.1)
form-inj (EqForm a b) (AppForm f x) r s h k p =
    let e = form-inj a f _ _ refl refl (tail 40 p) in
    absurd (no-term x _ 61 _ refl (sym (tail 32 e.1)))
form-inj (EqForm a b) (AbsForm t c) r s h k p = absurd (no-term a _ 92 _ refl (tail 40 p))
form-inj (AppForm f x) (FreeForm v) r s h k p = absurd (name-apart v.name _ 40 _ refl refl (sym p))
form-inj (AppForm f x) (ConForm n t) r s h k p = absurd (apart 40 64 _ _ refl p)
form-inj (AppForm f x) (BoundForm j) r s h k p = absurd (apart 40 35 _ _ refl p)
form-inj (AppForm f x) (EqForm a b) r s h k p =
    let e = form-inj f a _ _ refl refl (tail 40 p) in
    absurd (no-term x _ 61 _ refl (tail 32 e.1))
form-inj (AppForm f x) (AppForm g y) r s h k p =
    let e = form-inj f g _ _ refl refl (tail 40 p) in
    let w = form-inj x y _ _ refl refl (tail 32 e.1) in
    (λ i. AppForm (e.0 i) (w.0 i), tail 41 w.1)
form-inj (AppForm f x) (AbsForm t c) r s h k p = absurd (no-term f _ 92 _ refl (tail 40 p))
form-inj (AbsForm t b) (FreeForm v) r s h k p = absurd (name-apart v.name _ 40 _ refl refl (sym p))
form-inj (AbsForm t b) (ConForm n u) r s h k p = absurd (apart 40 64 _ _ refl p)
form-inj (AbsForm t b) (BoundForm j) r s h k p = absurd (apart 40 35 _ _ refl p)
form-inj (AbsForm t b) (EqForm a c) r s h k p = absurd (no-term a _ 92 _ refl (sym (tail 40 p)))
form-inj (AbsForm t b) (AppForm f x) r s h k p = absurd (no-term f _ 92 _ refl (sym (tail 40 p)))
form-inj (AbsForm t b) (AbsForm u c) r s h k p =
    let e = ty-inj t u _ _ (tail 92 (tail 40 p)) in
    let f = form-inj b c _ _ refl refl (tail 32 (tail 46 e.1)) in
    (λ i. AbsForm (e.0 i) (f.0 i), tail 41 f.1)
