-- The number of different parts of a named term.
use Rattle.std.specs.Bool.{Decides}
use Rattle.std.proofs.Common.{◌≡◌, ◌≤◌, true, false, List, [], ◌∷◌, length, refl, sym, subst, inl, inr, ◌⊎◌}
use Rattle.std.proofs.lemmas.Bool.Decides.{Decides-or, Decides-like}
use Rattle.ot_logic.specs.Lists.{IsMember, IsPart, IsSameSet, AreDistinct}
use Rattle.ot_logic.specs.Trees.{Alphabet, Named, NVar, NConst, NApp, NAbs}
use Rattle.ot_logic.specs.NamedTerms.{same_named, parts, has_named, distinct_named, size}
use Rattle.ot_laws.proofs.Tests.{Tells, cases_of, same_named-is}
use Rattle.ot_logic.proofs.Members.{distinct-length}

module _ {N : Type 0} (alphabet : Alphabet N) where
  -- a term is a part of itself, and a part of a part is a part
  pub part-self : (t : Named N) → IsMember t (parts alphabet t)
  part-self (NVar v) = inl refl
  part-self (NConst n t) = inl refl
  part-self (NApp f x) = inl refl
  part-self (NAbs v b) = inl refl

module _ {N : Type 0} (alphabet : Alphabet N) (tells : Tells alphabet) where
  pub has_named-is : (t : Named N) (us : List (Named N)) → Decides (has_named alphabet t us) (IsMember t us)
  has_named-is t [] = (λ h. cc, λ h. absurd h)
  has_named-is t (u ∷ us) =
      Decides-or (same_named alphabet t u) (has_named alphabet t us)
      (Decides-like (same_named alphabet t u) (λ e. sym e) (λ e. sym e) (same_named-is alphabet tells t u))
      (has_named-is t us)

  has_cases : (t : Named N) (us : List (Named N)) → ((has_named alphabet t us ≡ true) × IsMember t us)
      ⊎ ((has_named alphabet t us ≡ false) × ¬ (IsMember t us))
  has_cases t us = cases_of (has_named alphabet t us) (has_named-is t us)

  distinct_named-to : (x : Named N) (ts : List (Named N)) → IsMember x ts → IsMember x (distinct_named alphabet ts)
  distinct_named-to x (t ∷ ts) (inl e) = elim (has_cases t ts) [
    | inl p ↦ rw p.0 (distinct_named-to x ts (subst (λ z. IsMember z ts) e p.1))
    | inr p ↦ rw p.0 (inl e)
  ]
  distinct_named-to x (t ∷ ts) (inr i) =
      elim (has_cases t ts)
      [ inl p ↦ rw p.0 (distinct_named-to x ts i) | inr p ↦ rw p.0 (inr (distinct_named-to x ts i)) ]
  distinct_named-to x [] i = i

  distinct_named-back : (x : Named N) (ts : List (Named N)) → IsMember x (distinct_named alphabet ts) → IsMember x ts
  distinct_named-back x [] i = i
  distinct_named-back x (t ∷ ts) i = elim (has_cases t ts) [
    | inl p ↦ inr (distinct_named-back x ts (rw p.0 at i))
    | inr p ↦
        let k : IsMember x (t ∷ distinct_named alphabet ts) = rw p.0 at i in
        elim k [ inl e ↦ inl e | inr j ↦ inr (distinct_named-back x ts j) ]
  ]

  -- each member once
  pub same_set-distinct_named : (ts : List (Named N)) → IsSameSet ts (distinct_named alphabet ts)
  same_set-distinct_named ts = record { to = λ x. distinct_named-to x ts; back = λ x. distinct_named-back x ts }

  pub distinct-distinct_named : (ts : List (Named N)) → AreDistinct (distinct_named alphabet ts)
  distinct-distinct_named [] = tt
  distinct-distinct_named (t ∷ ts) = elim (has_cases t ts) [
    | inl p ↦ rw p.0 (distinct-distinct_named ts)
    | inr p ↦ rw p.0 (λ i. p.1 (distinct_named-back t ts i), distinct-distinct_named ts)
  ]

  -- what a walk has remembered, each part once, is no more than the size
  pub remembered-size : (t : Named N) (ks : List (Named N)) → AreDistinct ks → IsPart ks (parts alphabet t)
      → length ks ≤ size alphabet t
  remembered-size t ks d h = distinct-length ks (distinct_named alphabet (parts alphabet t)) d
      (λ x i. distinct_named-to x (parts alphabet t) (h x i))
