-- Named terms and their nameless forms: binders, and free variables.
use Rattle.std.specs.Prelude.{◌≢◌}
use Rattle.std.proofs.Common.{◌≡◌, ℕ, suc, cond, List, [], ◌∷◌, ◌++◌, length}
use Rattle.std.proofs.Common.{Some, None, refl, sym, ap, ◌∙◌, inl, inr, ◌⊎◌}
use Rattle.ot_logic.specs.Trees.{Alphabet, Variable, Tm, Free, Con, Bound, App, Abs, Named, NVar, NConst, NApp, NAbs}
use Rattle.ot_logic.specs.Hol.{same_var, close_at, IsFree}
use Rattle.ot_logic.specs.NamedTerms.{nameless, nameless_in, place, IsFreeIn}
use Rattle.ot_laws.proofs.Tests.{Tells, var_cases}

module _ {N : Type 0} (alphabet : Alphabet N) (tells : Tells alphabet) where
  -- the place of a variable when one more binder stands outermost
  place_cases : (e : List (Variable N)) (v w : Variable N)
      → ((k : ℕ) × (place alphabet e w ≡ Some k) × (place alphabet (e ++ v ∷ []) w ≡ Some k))
      ⊎ ((place alphabet e w ≡ None)
      × (place alphabet (e ++ v ∷ []) w ≡ cond (same_var alphabet w v) (Some (length e)) None))
  place_cases [] v w = inr (refl, refl)
  place_cases (u ∷ e) v w = elim (var_cases alphabet tells w u) [
    | inl p ↦ inl (0, rw p.0, rw p.0)
    | inr p ↦ elim (place_cases e v w) [
      | inl (k, a, b) ↦ inl (suc k, rw (p.0, a), rw (p.0, b))
      | inr (a, b) ↦ elim (var_cases alphabet tells w v) [
        | inl q ↦ inr (rw (p.0, a), rw (p.0, b, q.0))
        | inr q ↦ inr (rw (p.0, a), rw (p.0, b, q.0))
      ]
    ]
  ]

  pub nameless_in-snoc : (e : List (Variable N)) (v : Variable N) (t : Named N) → nameless_in alphabet (e ++ v ∷ []) t
      ≡ close_at alphabet (length e) v (nameless_in alphabet e t)
  nameless_in-snoc e v (NVar w) = elim (place_cases e v w) [
    | inl (k, a, b) ↦ rw (a, b)
    | inr (a, b) ↦ elim (var_cases alphabet tells w v) [
      | inl q ↦ rw (a, b, q.0)
      | inr q ↦ rw (a, b, q.0)
    ]
  ]
  nameless_in-snoc e v (NConst n t) = refl
  nameless_in-snoc e v (NApp f x) =
      let p = nameless_in-snoc e v f in
      let q = nameless_in-snoc e v x in
      cc
  nameless_in-snoc e v (NAbs w b) = ap (Abs w.ty) (nameless_in-snoc (w ∷ e) v b)

  pub nameless_in-nil : (t : Named N) → nameless_in alphabet [] t ≡ nameless alphabet t
  nameless_in-nil (NVar v) = refl
  nameless_in-nil (NConst n t) = refl
  nameless_in-nil (NApp f x) =
      let p = nameless_in-nil f in
      let q = nameless_in-nil x in
      cc
  nameless_in-nil (NAbs v b) =
      ap (Abs v.ty) (nameless_in-snoc [] v b ∙ ap (close_at alphabet 0 v) (nameless_in-nil b))

  -- free in the named term is free in its nameless form
  pub free-from_close : (k : ℕ) (v w : Variable N) (t : Tm N) → IsFree alphabet v (close_at alphabet k w t)
      → (w ≢ v) × IsFree alphabet v t
  free-from_close k v w (Free x) h = elim (var_cases alphabet tells x w) [
    | inl p ↦ absurd (rw p.0 at h)
    | inr p ↦ let e : x ≡ v = rw p.0 at h in (λ d. p.1 (e ∙ sym d), e)
  ]
  free-from_close k v w (Con n t) h = absurd h
  free-from_close k v w (Bound j) h = absurd h
  free-from_close k v w (App f x) (inl h) = let p = free-from_close k v w f h in (p.0, inl p.1)
  free-from_close k v w (App f x) (inr h) = let p = free-from_close k v w x h in (p.0, inr p.1)
  free-from_close k v w (Abs t b) h = free-from_close (suc k) v w b h

  pub free-to_close : (k : ℕ) (v w : Variable N) (t : Tm N) → w ≢ v → IsFree alphabet v t
      → IsFree alphabet v (close_at alphabet k w t)
  free-to_close k v w (Free x) n h = elim (var_cases alphabet tells x w) [
    | inl p ↦ absurd (n (sym p.1 ∙ h))
    | inr p ↦ rw p.0 h
  ]
  free-to_close k v w (Con m t) n h = h
  free-to_close k v w (Bound j) n h = h
  free-to_close k v w (App f x) n (inl h) = inl (free-to_close k v w f n h)
  free-to_close k v w (App f x) n (inr h) = inr (free-to_close k v w x n h)
  free-to_close k v w (Abs t b) n h = free-to_close (suc k) v w b n h

  pub free-nameless : (v : Variable N) (t : Named N) → IsFree alphabet v (nameless alphabet t) → IsFreeIn alphabet v t
  free-nameless v (NVar w) h = h
  free-nameless v (NConst n t) h = h
  free-nameless v (NApp f x) (inl h) = inl (free-nameless v f h)
  free-nameless v (NApp f x) (inr h) = inr (free-nameless v x h)
  free-nameless v (NAbs w b) h = let p = free-from_close 0 v w (nameless alphabet b) h in (p.0, free-nameless v b p.1)

  pub nameless-free : (v : Variable N) (t : Named N) → IsFreeIn alphabet v t → IsFree alphabet v (nameless alphabet t)
  nameless-free v (NVar w) h = h
  nameless-free v (NConst n t) h = h
  nameless-free v (NApp f x) (inl h) = inl (nameless-free v f h)
  nameless-free v (NApp f x) (inr h) = inr (nameless-free v x h)
  nameless-free v (NAbs w b) h = free-to_close 0 v w (nameless alphabet b) h.0 (nameless-free v b h.1)
