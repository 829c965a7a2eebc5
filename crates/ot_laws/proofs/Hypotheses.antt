-- Hypotheses as sets: the tests decide, and no list comes out with a repetition that had none.
use Rattle.std.specs.Prelude.{◌≢◌, ◌↔◌, ◌&&◌}
use Rattle.std.specs.Bool.{Decides}
use Rattle.std.proofs.Common.{◌≡◌, true, false, List, [], ◌∷◌}
use Rattle.std.proofs.Common.{◌++◌, refl, sym, ◌∙◌, subst, inl, inr, ◌⊎◌}
use Rattle.std.proofs.lemmas.Bool.Decides.{Decides-and, Decides-or, Decides-like}
use Rattle.ot_logic.specs.Lists.{IsMember, IsPart, IsSameSet, AreDistinct}
use Rattle.ot_logic.specs.Trees.{Alphabet, Tm, Sequent}
use Rattle.ot_logic.specs.Hol.{same_tm, minus, is_in, lacking, union, once_each, all_in, same_sequent}
use Rattle.ot_laws.proofs.Tests.{Tells, cases_of, same_tm-is, tm_cases}
use Rattle.ot_laws.proofs.Sets.{distinct-append}
use Rattle.ot_logic.proofs.Members.{IsMember-cases, IsMember-left, IsMember-right}

module _ {N : Type 0} (alphabet : Alphabet N) (tells : Tells alphabet) where
  pub is_in-is : (t : Tm N) (ts : List (Tm N)) → Decides (is_in alphabet t ts) (IsMember t ts)
  is_in-is t [] = (λ h. cc, λ h. absurd h)
  is_in-is t (u ∷ us) = Decides-or (same_tm alphabet u t) (is_in alphabet t us) (same_tm-is alphabet tells u t)
      (is_in-is t us)

  pub in_cases : (t : Tm N) (ts : List (Tm N)) → ((is_in alphabet t ts ≡ true) × IsMember t ts)
      ⊎ ((is_in alphabet t ts ≡ false) × ¬ (IsMember t ts))
  in_cases t ts = cases_of (is_in alphabet t ts) (is_in-is t ts)

  pub all_in-is : (ts us : List (Tm N)) → Decides (all_in alphabet ts us) (IsPart ts us)
  all_in-is [] us = (λ h x i. absurd i, λ h. refl)
  all_in-is (t ∷ ts) us =
      Decides-like (all_in alphabet (t ∷ ts) us) join split
      (Decides-and (is_in alphabet t us) (all_in alphabet ts us) (is_in-is t us) (all_in-is ts us))
    where
      join : IsMember t us × IsPart ts us → IsPart (t ∷ ts) us
      join p x (inl e) = subst (λ z. IsMember z us) e p.0
      join p x (inr i) = p.1 x i

      split : IsPart (t ∷ ts) us → IsMember t us × IsPart ts us
      split h = (h t (inl refl), λ x i. h x (inr i))

  -- the same set of hypotheses, and the same conclusion
  pub same_sequent-is : (q r : Sequent N)
      → Decides (same_sequent alphabet q r) (IsSameSet q.hyps r.hyps × (q.concl ≡ r.concl))
  same_sequent-is q r =
      Decides-like (same_sequent alphabet q r) (λ p. (record { to = p.0.0; back = p.0.1 }, p.1))
      (λ p. ((p.0.to, p.0.back), p.1))
      (Decides-and (all_in alphabet q.hyps r.hyps && all_in alphabet r.hyps q.hyps) (same_tm alphabet q.concl r.concl)
      (Decides-and (all_in alphabet q.hyps r.hyps) (all_in alphabet r.hyps q.hyps) (all_in-is q.hyps r.hyps)
      (all_in-is r.hyps q.hyps))
      (same_tm-is alphabet tells q.concl r.concl))

  -- ---- a set without a member
  pub IsMember-minus : (x y : Tm N) (ys : List (Tm N)) → IsMember x (minus alphabet y ys) → IsMember x ys × (x ≢ y)
  IsMember-minus x y [] h = absurd h
  IsMember-minus x y (z ∷ ys) h = elim (tm_cases alphabet tells z y) [
    | inl p ↦ let r = IsMember-minus x y ys (rw p.0 at h) in (inr r.0, r.1)
    | inr p ↦
        let k : IsMember x (z ∷ minus alphabet y ys) = rw p.0 at h in
        elim k [
          | inl e ↦ (inl e, λ d. p.1 (e ∙ d))
          | inr m ↦ let r = IsMember-minus x y ys m in (inr r.0, r.1)
        ]
  ]

  pub IsMember-minus_back : (x y : Tm N) (ys : List (Tm N)) → IsMember x ys → x ≢ y → IsMember x (minus alphabet y ys)
  IsMember-minus_back x y (z ∷ ys) (inl e) n =
      elim (tm_cases alphabet tells z y) [ inl p ↦ absurd (n (sym e ∙ p.1)) | inr p ↦ rw p.0 (inl e) ]
  IsMember-minus_back x y (z ∷ ys) (inr h) n = elim (tm_cases alphabet tells z y) [
    | inl p ↦ rw p.0 (IsMember-minus_back x y ys h n)
    | inr p ↦ rw p.0 (inr (IsMember-minus_back x y ys h n))
  ]
  IsMember-minus_back x y [] h n = h

  pub distinct-minus : (y : Tm N) (ys : List (Tm N)) → AreDistinct ys → AreDistinct (minus alphabet y ys)
  distinct-minus y [] d = tt
  distinct-minus y (z ∷ ys) d = elim (tm_cases alphabet tells z y) [
    | inl p ↦ rw p.0 (distinct-minus y ys d.1)
    | inr p ↦ rw p.0 (λ i. d.0 (IsMember-minus z y ys i).0, distinct-minus y ys d.1)
  ]

  -- ---- the union of two sets
  pub IsMember-lacking : (x : Tm N) (g h : List (Tm N)) → IsMember x (lacking alphabet g h)
      → IsMember x h × ¬ (IsMember x g)
  IsMember-lacking x g [] i = absurd i
  IsMember-lacking x g (t ∷ ts) i = elim (in_cases t g) [
    | inl p ↦ let r = IsMember-lacking x g ts (rw p.0 at i) in (inr r.0, r.1)
    | inr p ↦
        let k : IsMember x (t ∷ lacking alphabet g ts) = rw p.0 at i in
        elim k [
          | inl e ↦ (inl e, subst (λ z. ¬ (IsMember z g)) e p.1)
          | inr m ↦ let r = IsMember-lacking x g ts m in (inr r.0, r.1)
        ]
  ]

  pub IsMember-lacking_back : (x : Tm N) (g h : List (Tm N)) → IsMember x h → ¬ (IsMember x g)
      → IsMember x (lacking alphabet g h)
  IsMember-lacking_back x g (t ∷ ts) (inl e) n =
      elim (in_cases t g) [ inl p ↦ absurd (n (subst (λ z. IsMember z g) e p.1)) | inr p ↦ rw p.0 (inl e) ]
  IsMember-lacking_back x g (t ∷ ts) (inr i) n = elim (in_cases t g) [
    | inl p ↦ rw p.0 (IsMember-lacking_back x g ts i n)
    | inr p ↦ rw p.0 (inr (IsMember-lacking_back x g ts i n))
  ]
  IsMember-lacking_back x g [] i n = i

  pub distinct-lacking : (g h : List (Tm N)) → AreDistinct h → AreDistinct (lacking alphabet g h)
  distinct-lacking g [] d = tt
  distinct-lacking g (t ∷ ts) d = elim (in_cases t g) [
    | inl p ↦ rw p.0 (distinct-lacking g ts d.1)
    | inr p ↦ rw p.0 (λ i. d.0 (IsMember-lacking t g ts i).0, distinct-lacking g ts d.1)
  ]

  -- the members of a union are those of both lists together
  pub same_set-union : (g h : List (Tm N)) → IsSameSet (g ++ h) (union alphabet g h)
  same_set-union g h = record { to = to; back = back }
    where
      to : IsPart (g ++ h) (union alphabet g h)
      to x i = elim (in_cases x g) [
        | inl p ↦ IsMember-left x g (lacking alphabet g h) p.1
        | inr p ↦ elim (IsMember-cases x g h i) [
          | inl j ↦ absurd (p.1 j)
          | inr j ↦ IsMember-right x g (lacking alphabet g h) (IsMember-lacking_back x g h j p.1)
        ]
      ]

      back : IsPart (union alphabet g h) (g ++ h)
      back x i = elim (IsMember-cases x g (lacking alphabet g h) i)
          [ inl j ↦ IsMember-left x g h j | inr j ↦ IsMember-right x g h (IsMember-lacking x g h j).0 ]

  pub IsMember-union : (x : Tm N) (g h : List (Tm N)) → IsMember x (union alphabet g h)
      ↔ (IsMember x g ⊎ IsMember x h)
  IsMember-union x g h = (
    λ i. IsMember-cases x g h ((same_set-union g h).back x i),
    λ i. (same_set-union g h).to x (elim i [ inl j ↦ IsMember-left x g h j | inr j ↦ IsMember-right x g h j ]),
  )

  pub distinct-union : (g h : List (Tm N)) → AreDistinct g → AreDistinct h → AreDistinct (union alphabet g h)
  distinct-union g h d e = distinct-append g (lacking alphabet g h) d (distinct-lacking g h e)
      (λ x i j. (IsMember-lacking x g h j).1 i)

  -- ---- each member once
  pub same_set-once_each : (ts : List (Tm N)) → IsSameSet ts (once_each alphabet ts)
  same_set-once_each ts = record { to = λ x. to x ts; back = λ x. back x ts }
    where
      to : (x : Tm N) (us : List (Tm N)) → IsMember x us → IsMember x (once_each alphabet us)
      to x (u ∷ us) (inl e) =
          elim (in_cases u us) [
            | inl p ↦ rw p.0 (to x us (subst (λ z. IsMember z us) e p.1))
            | inr p ↦
                rw p.0 (inl e)
          ]
      to x (u ∷ us) (inr i) = elim (in_cases u us) [ inl p ↦ rw p.0 (to x us i) | inr p ↦ rw p.0 (inr (to x us i)) ]
      to x [] i = i

      back : (x : Tm N) (us : List (Tm N)) → IsMember x (once_each alphabet us) → IsMember x us
      back x [] i = i
      back x (u ∷ us) i = elim (in_cases u us) [
        | inl p ↦ inr (back x us (rw p.0 at i))
        | inr p ↦
            let k : IsMember x (u ∷ once_each alphabet us) = rw p.0 at i in
            elim k [ inl e ↦ inl e | inr j ↦ inr (back x us j) ]
      ]

  pub IsMember-once_each : (x : Tm N) (ts : List (Tm N)) → IsMember x (once_each alphabet ts) ↔ IsMember x ts
  IsMember-once_each x ts = ((same_set-once_each ts).back x, (same_set-once_each ts).to x)

  pub distinct-once_each : (ts : List (Tm N)) → AreDistinct (once_each alphabet ts)
  distinct-once_each [] = tt
  distinct-once_each (t ∷ ts) = elim (in_cases t ts) [
    | inl p ↦ rw p.0 (distinct-once_each ts)
    | inr p ↦ rw p.0 (λ i. p.1 ((same_set-once_each ts).back t i), distinct-once_each ts)
  ]
