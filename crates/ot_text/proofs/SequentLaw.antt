-- Sequents: one text is the text of one set of hypotheses and one conclusion.
use Rattle.std.specs.Prelude.{◌≡◌, ℕ, true, List, [], ◌∷◌, ◌++◌, map}
use Rattle.std.proofs.Common.{refl, sym, ◌∙◌, ap, subst, append_assoc, append-nil, inl, inr}
use Rattle.ot_logic.specs.Names.{Name}
use Rattle.ot_logic.specs.Trees.{Tm, Sequent}
use Rattle.ot_logic.specs.Naming.{names}
use Rattle.ot_logic.specs.Hol.{bool_ty, HasType, IsSequent}
use Rattle.ot_logic.specs.Lists.{IsMember, IsPart, IsSameSet}
use Rattle.ot_laws.proofs.Sets.{all-member}
use Rattle.ot_text.specs.Texts.{tm_text, ascending, further_hyps, hyps_text, sequent_text}
use Rattle.ot_text.proofs.Spelling.{apart}
use Rattle.ot_text.specs.Laws.{no_digit}
use Rattle.ot_text.proofs.Forms.{Form, form, onto, tm-onto, form-inj, no-term, tail}
use Rattle.ot_text.proofs.TermLaw.{tm_text-inj}
use Rattle.ot_text.proofs.Ascending.{member-ascending, ascending-member, ascending-same}

-- the text of some form
pub record IsFormText (x : List ℕ) : Type 0 where
  pub of : Form
  pub is : (r : List ℕ) → x ++ r ≡ onto of r

abbrev pub AllFormTexts : List (List ℕ) → Type 0
AllFormTexts xs = (x : List ℕ) → IsMember x xs → IsFormText x

-- two such texts, each followed by no digit
texts-inj : (x y r s : List ℕ) → IsFormText x → IsFormText y → no_digit r ≡ true → no_digit s ≡ true → x ++ r ≡ y ++ s
    → (x ≡ y) × (r ≡ s)
texts-inj x y r s f g h k p =
    let e = form-inj f.of g.of r s h k (sym (f.is r) ∙ p ∙ g.is s) in
    (sym (append-nil x) ∙ f.is [] ∙ ap (λ z. onto z []) e.0 ∙ sym (g.is []) ∙ append-nil y, e.1)

-- what follows a hypothesis
abbrev pub after : List (List ℕ) → List ℕ → List ℕ
after [] r = 32 ∷ 124 ∷ 45 ∷ 32 ∷ r
after (x ∷ xs) r = 44 ∷ 32 ∷ x ++ after xs r

after-text : (xs : List (List ℕ)) (r : List ℕ) → further_hyps xs ++ r ≡ after xs r
after-text [] r = refl
after-text (x ∷ xs) r =
    ap (λ z. 44 ∷ 32 ∷ z) (append_assoc x (further_hyps xs) r ∙ ap (λ z. x ++ z) (after-text xs r))

after-no_digit : (xs : List (List ℕ)) (r : List ℕ) → no_digit (after xs r) ≡ true
after-no_digit [] r = refl
after-no_digit (x ∷ xs) r = refl

abbrev pub sequent_onto : List (List ℕ) → List ℕ → List ℕ
sequent_onto [] r = 124 ∷ 45 ∷ 32 ∷ r
sequent_onto (x ∷ xs) r = x ++ after xs r

sequent-text : (xs : List (List ℕ)) (r : List ℕ) → hyps_text xs ++ r ≡ sequent_onto xs r
sequent-text [] r = refl
sequent-text (x ∷ xs) r = append_assoc x (further_hyps xs) r ∙ ap (λ z. x ++ z) (after-text xs r)

cons-both : {x y : List ℕ} {xs ys : List (List ℕ)} {r s : List ℕ} → x ≡ y → (xs ≡ ys) × (r ≡ s)
    → (x ∷ xs ≡ y ∷ ys) × (r ≡ s)
cons-both p q = (λ i. p i ∷ q.0 i, q.1)

after-inj : (xs ys : List (List ℕ)) (r s : List ℕ) → AllFormTexts xs → AllFormTexts ys → after xs r ≡ after ys s
    → (xs ≡ ys) × (r ≡ s)
after-inj [] [] r s a b p = (refl, tail 32 (tail 45 (tail 124 (tail 32 p))))
after-inj [] (y ∷ ys) r s a b p = absurd (apart 32 44 _ _ refl p)
after-inj (x ∷ xs) [] r s a b p = absurd (apart 44 32 _ _ refl p)
after-inj (x ∷ xs) (y ∷ ys) r s a b p =
    let e = texts-inj x y (after xs r) (after ys s) (a x (inl refl)) (b y (inl refl)) (after-no_digit xs r)
    (after-no_digit ys s) (tail 32 (tail 44 p)) in
    cons-both e.0 (after-inj xs ys r s (λ z m. a z (inr m)) (λ z m. b z (inr m)) e.1)

bar : (x r s : List ℕ) → IsFormText x → x ++ r ≡ 124 ∷ s → ⊥
bar x r s f p = no-term f.of r 124 s refl (sym (f.is r) ∙ p)

pub hyps-inj : (xs ys : List (List ℕ)) (r s : List ℕ) → AllFormTexts xs → AllFormTexts ys
    → hyps_text xs ++ r ≡ hyps_text ys ++ s → (xs ≡ ys) × (r ≡ s)
hyps-inj xs ys r s a b p = go xs ys a b (sym (sequent-text xs r) ∙ p ∙ sequent-text ys s) where
  go : (xs ys : List (List ℕ)) → AllFormTexts xs → AllFormTexts ys → sequent_onto xs r ≡ sequent_onto ys s
      → (xs ≡ ys) × (r ≡ s)
  go [] [] a b p = (refl, tail 32 (tail 45 (tail 124 p)))
  go [] (y ∷ ys) a b p = absurd (bar y _ _ (b y (inl refl)) (sym p))
  go (x ∷ xs) [] a b p = absurd (bar x _ _ (a x (inl refl)) p)
  go (x ∷ xs) (y ∷ ys) a b p =
      let e = texts-inj x y (after xs r) (after ys s) (a x (inl refl)) (b y (inl refl)) (after-no_digit xs r)
      (after-no_digit ys s) p in
      cons-both e.0 (after-inj xs ys r s (λ z m. a z (inr m)) (λ z m. b z (inr m)) e.1)

-- ---- members of a list of texts
member-map : {X : Type 0} (f : X → List ℕ) (t : X) (ts : List X) → IsMember t ts → IsMember (f t) (map f ts)
member-map f t [] m = absurd m
member-map f t (u ∷ us) (inl p) = inl (ap f p)
member-map f t (u ∷ us) (inr m) = inr (member-map f t us m)

map-member : {X : Type 0} (f : X → List ℕ) (x : List ℕ) (ts : List X) → IsMember x (map f ts)
    → (t : X) × IsMember t ts × (f t ≡ x)
map-member f x [] m = absurd m
map-member f x (u ∷ us) (inl p) = (u, inl refl, p)
map-member f x (u ∷ us) (inr m) = let e = map-member f x us m in (e.0, inr e.1, e.2)

texts-of-terms : (ts : List (Tm Name)) → AllFormTexts (ascending (map tm_text ts))
texts-of-terms ts x m =
    let e = map-member tm_text x ts (member-ascending x (map tm_text ts) m) in
    subst IsFormText e.2 (record { of = form e.0; is = tm-onto e.0 })

-- ---- the law
typed-same : (t u : Tm Name) → HasType names t (bool_ty names) → HasType names u (bool_ty names)
    → tm_text t ≡ tm_text u → t ≡ u
typed-same t u a b p =
    (tm_text-inj [] t u (bool_ty names) (bool_ty names) [] [] a b refl refl (ap (λ z. z ++ []) p)).0

part-same : (g h : List (Tm Name)) → ((t : Tm Name) → IsMember t g → HasType names t (bool_ty names))
    → ((t : Tm Name) → IsMember t h → HasType names t (bool_ty names))
    → ascending (map tm_text g) ≡ ascending (map tm_text h) → IsPart g h
part-same g h a b p t m =
    let x = ascending-member (tm_text t) (map tm_text g) (member-map tm_text t g m) in
    let y = member-ascending (tm_text t) (map tm_text h) (subst (λ z. IsMember (tm_text t) z) p x) in
    let e = map-member tm_text (tm_text t) h y in
    subst (λ z. IsMember z h) (typed-same e.0 t (b e.0 e.1) (a t m) e.2) e.1

pub sequent-front : (p q : Sequent Name) (r s : List ℕ) → IsSequent names p → IsSequent names q → no_digit r ≡ true
    → no_digit s ≡ true → sequent_text p ++ r ≡ sequent_text q ++ s → IsSameSet p.hyps q.hyps × (p.concl ≡ q.concl)
    × (r ≡ s)
sequent-front p q r s a b hr hs h =
    let x = append_assoc (hyps_text (ascending (map tm_text p.hyps))) (tm_text p.concl) r in
    let y = append_assoc (hyps_text (ascending (map tm_text q.hyps))) (tm_text q.concl) s in
    let e = hyps-inj (ascending (map tm_text p.hyps)) (ascending (map tm_text q.hyps)) (tm_text p.concl ++ r)
    (tm_text q.concl ++ s) (texts-of-terms p.hyps) (texts-of-terms q.hyps) (sym x ∙ h ∙ y) in
    let f = all-member (λ t. HasType names t (bool_ty names)) p.hyps a.hyps in
    let g = all-member (λ t. HasType names t (bool_ty names)) q.hyps b.hyps in
    let c = tm_text-inj [] p.concl q.concl (bool_ty names) (bool_ty names) r s a.concl b.concl hr hs e.1 in
    (record { to = part-same p.hyps q.hyps f g e.0; back = part-same q.hyps p.hyps g f (sym e.0) }, c.0, c.1)

pub sequent_text-inj : (p q : Sequent Name) → IsSequent names p → IsSequent names q → sequent_text p ≡ sequent_text q
    → IsSameSet p.hyps q.hyps × (p.concl ≡ q.concl)
sequent_text-inj p q a b h = let e = sequent-front p q [] [] a b refl refl (ap (λ z. z ++ []) h) in (e.0, e.1)

map-part : (g h : List (Tm Name)) → IsPart g h → IsPart (map tm_text g) (map tm_text h)
map-part g h p x m = let e = map-member tm_text x g m in
    subst (λ z. IsMember z (map tm_text h)) e.2 (member-map tm_text e.0 h (p e.0 e.1))

-- and one set has one text
pub sequent_text-same : (p q : Sequent Name) → IsSameSet p.hyps q.hyps → p.concl ≡ q.concl
    → sequent_text p ≡ sequent_text q
sequent_text-same p q h e =
    let x = ascending-same (map tm_text p.hyps) (map tm_text q.hyps)
    (record { to = map-part p.hyps q.hyps h.to; back = map-part q.hyps p.hyps h.back }) in
    λ i. hyps_text (x i) ++ tm_text (e i)
