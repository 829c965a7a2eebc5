-- Hypotheses in the order of their texts are the same hypotheses; sequents that are kept once.
use Rattle.std.specs.Prelude.{slice_get, if◌then◌else◌}
use Rattle.std.specs.List.{AllByRecursion, list_any}
use Rattle.std.specs.declared.cmp.Ordering.{Ordering}
use Rattle.std.specs.declared.cmp.Ordering.TheVariants.{Less, Equal, Greater}
use Rattle.std.proofs.Common.{◌≡◌, ℕ, ◌<◌, Bool, true, false, List, [], ◌∷◌, ◌++◌}
use Rattle.std.proofs.Common.{length, Some, refl, sym, ap, subst, ◌∙◌, inl, inr, ◌⊎◌}
use Rattle.ot_logic.specs.Lists.{IsMember, IsPart, IsSameSet}
use Rattle.ot_logic.specs.Names.{Name}
use Rattle.ot_logic.specs.Naming.{names}
use Rattle.ot_logic.specs.Trees.{Tm, Sequent}
use Rattle.ot_logic.specs.Hol.{bool_ty, HasType, same_sequent}
use Rattle.ot_laws.proofs.Tests.{tells_names}
use Rattle.ot_laws.proofs.Sets.{same_set-self, same_set-both_ways, same_set-then, all-member, all-from_members}
use Rattle.ot_laws.proofs.Hypotheses.{same_sequent-is}
use Rattle.ot_text.specs.Texts.{tm_text, order}
use Rattle.ot_text.proofs.TermLaw.{tm_text-inj}
use Rattle.ot_text.proofs.Ascending.{equal-is}
use Rattle.ot_log_format.specs.State.{kept_once}
use Rattle.ot_machine.specs.Lawful.{AreApart}
use Rattle.ot_written.proofs.Filters.{bool_cases, any-to, any-from}
use Rattle.ot_written.proofs.Members.{member-get, get-push}
use Rattle.ot_log_records.specs.Expansions.{put_between, with_term, by_text}
use Rattle.ot_log_records.specs.Same.{IsSame}
use Rattle.ot_logic.proofs.Members.{IsMember-cases, IsMember-left, IsMember-right}

-- ---- hypotheses by their texts

abbrev pub AreBool : List (Tm Name) → Type 0
AreBool = AllByRecursion (λ h. HasType names h (bool_ty names))

one-text : (t u : Tm Name) → HasType names t (bool_ty names) → HasType names u (bool_ty names)
    → order (tm_text t) (tm_text u) ≡ Equal → t ≡ u
one-text t u p q e =
    (tm_text-inj [] t u (bool_ty names) (bool_ty names) [] [] p q refl
    refl (ap (λ z. z ++ []) (equal-is (tm_text t) (tm_text u) e))).0

with-term : (t : Tm Name) (us : List (Tm Name)) → HasType names t (bool_ty names) → AreBool us
    → IsSameSet (with_term t us) (t ∷ us)
with-term t [] p h = same_set-self (t ∷ [])
with-term t (u ∷ us) p h = by (order (tm_text t) (tm_text u)) refl (with-term t us p h.1)
  where
    by : (o : Ordering) → order (tm_text t) (tm_text u) ≡ o → IsSameSet (with_term t us) (t ∷ us)
        → IsSameSet (put_between o t u us (with_term t us)) (t ∷ u ∷ us)
    by Less e s = same_set-self (t ∷ u ∷ us)
    by Equal e s =
        record {
          to = λ x m. inr m;
          back = λ x m. elim m [ inl k ↦ inl (sym (one-text t u p h.0 e) ∙ k) | inr k ↦ k ];
        }
    by Greater e s = record {
      to = λ x m. elim m [ inl k ↦ inr (inl k) | inr k ↦ elim (s.to x k) [ inl a ↦ inl a | inr b ↦ inr (inr b) ] ];
      back = λ x m. elim m
          [ inl k ↦ inr (s.back x (inl k)) | inr k ↦ elim k [ inl a ↦ inl a | inr b ↦ inr (s.back x (inr b)) ] ];
    }

bool-same : (g h : List (Tm Name)) → IsPart g h → AreBool h → AreBool g
bool-same g h p b =
    all-from_members (λ z. HasType names z (bool_ty names)) g
    (λ x m. all-member (λ z. HasType names z (bool_ty names)) h b x (p x m))

pub by_text-same : (hyps : List (Tm Name)) → AreBool hyps → IsSameSet (by_text hyps) hyps
by_text-same [] h = same_set-self []
by_text-same (t ∷ ts) h =
    let s = by_text-same ts h.1 in
    let w = with-term t (by_text ts) h.0 (bool-same (by_text ts) ts s.to h.1) in
    record {
      to = λ x m. elim (w.to x m) [ inl k ↦ inl k | inr k ↦ inr (s.to x k) ];
      back = λ x m. w.back x (elim m [ inl k ↦ inl k | inr k ↦ inr (s.back x k) ]);
    }

pub by_text-bool : (hyps : List (Tm Name)) → AreBool hyps → AreBool (by_text hyps)
by_text-bool hyps h = bool-same (by_text hyps) hyps (by_text-same hyps h).to h

-- ---- one sequent

pub same-of : (q r : Sequent Name) → IsSameSet q.hyps r.hyps → q.concl ≡ r.concl → same_sequent names q r ≡ true
same-of q r s e = (same_sequent-is names tells_names q r).1 (s, e)

pub same-self : (q : Sequent Name) → same_sequent names q q ≡ true
same-self q = same-of q q (same_set-self q.hyps) refl

pub same-back : (q r : Sequent Name) → same_sequent names q r ≡ true → same_sequent names r q ≡ true
same-back q r h = let p = (same_sequent-is names tells_names q r).0 h in
    same-of r q (same_set-both_ways p.0) (sym p.1)

pub same-then : (q r s : Sequent Name) → same_sequent names q r ≡ true → same_sequent names r s ≡ true
    → same_sequent names q s ≡ true
same-then q r s h k =
    let a = (same_sequent-is names tells_names q r).0 h in
    let b = (same_sequent-is names tells_names r s).0 k in
    same-of q s (same_set-then a.0 b.0) (a.1 ∙ b.1)

pub is-same : (q r : Sequent Name) → IsSame names q r → same_sequent names q r ≡ true
is-same q r s = same-of q r s.hyps s.concl

-- ---- kept once

abbrev there : Sequent Name → List (Sequent Name) → Bool
there q qs = list_any (λ r. same_sequent names r q) qs

pub once-member : (qs : List (Sequent Name)) (q r : Sequent Name) → IsMember r (kept_once names qs q)
    → IsMember r qs ⊎ (r ≡ q)
once-member qs q r m = by (there q qs) m
  where
    by : (b : Bool) → IsMember r (if b then qs else qs ++ q ∷ []) → IsMember r qs ⊎ (r ≡ q)
    by true i = inl i
    by false i = elim (IsMember-cases r qs (q ∷ []) i)
        [ inl k ↦ inl k | inr k ↦ elim k [ inl e ↦ inr (sym e) | inr n ↦ absurd n ] ]

pub member-once : (qs : List (Sequent Name)) (q r : Sequent Name) → IsMember r qs → IsMember r (kept_once names qs q)
member-once qs q r m = by (there q qs)
  where
    by : (b : Bool) → IsMember r (if b then qs else qs ++ q ∷ [])
    by true = m
    by false = IsMember-left r qs (q ∷ []) m

pub once-has : (qs : List (Sequent Name)) (q : Sequent Name)
    → (r : Sequent Name) × IsMember r (kept_once names qs q) × (same_sequent names r q ≡ true)
once-has qs q = elim (bool_cases (there q qs)) [
  | inl e ↦
      (let x = any-to (λ r. same_sequent names r q) qs e in
      (x.0, subst (λ b. IsMember x.0 (if b then qs else qs ++ q ∷ [])) (sym e) x.1, x.2))
  | inr e ↦ (
    q,
    subst (λ b. IsMember q (if b then qs else qs ++ q ∷ [])) (sym e) (IsMember-right q qs (q ∷ []) (inl refl)),
    same-self q,
  )
]

pub once-new : (qs : List (Sequent Name)) (q : Sequent Name)
    → ((r : Sequent Name) → IsMember r qs → same_sequent names r q ≡ true → ⊥) → kept_once names qs q ≡ qs ++ q ∷ []
once-new qs q none = elim (bool_cases (there q qs)) [
  | inl e ↦ (let x = any-to (λ r. same_sequent names r q) qs e in absurd (none x.0 x.1 x.2))
  | inr e ↦ ap (λ b. if b then qs else qs ++ q ∷ []) e
]

-- x stands at a place of the list, or is the one behind it
abbrev At : List (Sequent Name) → Sequent Name → ℕ → Sequent Name → Type 0
At qs q i x = ((slice_get qs i ≡ Some x) × (i < length qs)) ⊎ ((i ≡ length qs) × (q ≡ x))

pub once-apart : (qs : List (Sequent Name)) (q : Sequent Name) → AreApart (λ z. z) qs
    → AreApart (λ z. z) (kept_once names qs q)
once-apart qs q a = elim (bool_cases (there q qs)) [
  | inl e ↦ subst (λ b. AreApart (λ z. z) (if b then qs else qs ++ q ∷ [])) (sym e) a
  | inr e ↦
      subst (λ b. AreApart (λ z. z) (if b then qs else qs ++ q ∷ [])) (sym e)
      (λ i j x y g h s. both i j x y e s (get-push qs q i x g) (get-push qs q j y h))
]
  where
    no : (x : Sequent Name) (i : ℕ) → there q qs ≡ false → slice_get qs i ≡ Some x → same_sequent names x q ≡ true → ⊥
    no x i e g s = let f : there q qs ≡ true = any-from (λ r. same_sequent names r q) x qs (member-get x qs i g) s in
        cc

    both : (i j : ℕ) (x y : Sequent Name) → there q qs ≡ false → same_sequent names x y ≡ true → At qs q i x
        → At qs q j y → i ≡ j
    both i j x y e s (inl g) (inl h) = a i j x y g.0 h.0 s
    both i j x y e s (inl g) (inr h) = absurd (no x i e g.0 (subst (λ z. same_sequent names x z ≡ true) (sym h.1) s))
    both i j x y e s (inr g) (inl h) =
        absurd (no y j e h.0 (same-back q y (subst (λ z. same_sequent names z y ≡ true) (sym g.1) s)))
    both i j x y e s (inr g) (inr h) = g.0 ∙ sym h.0
