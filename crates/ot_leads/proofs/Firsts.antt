-- First places.
use Rattle.std.proofs.Common.{◌≡◌, ◌≢◌, ℕ, zero, suc, ◌<◌, ◌⊎◌, inl, inr, List, length, slice_index, refl, sym, subst}
use Rattle.std.proofs.Common.{◌∙◌, arith}
use Rattle.std.proofs.lemmas.Bool.Decides.{eqb_tells}
use Rattle.ot_leads.specs.Found.{IsFirst}

module _ (is : List ℕ) (x : ℕ) where
  -- the first place of a number
  pub record FirstPlace (n : ℕ) : Type 0 where
    pub place : ℕ
    pub below : place < n
    pub is_x : slice_index is place ≡ x
    pub none : (q : ℕ) → q < place → slice_index is q ≢ x

  first-below : (n : ℕ) → FirstPlace n ⊎ ((q : ℕ) → q < n → slice_index is q ≢ x)
  first-below zero = inr (λ q h. absurd (omega (arith, h)))
  first-below (suc n) = elim (first-below n) [
    | inl f ↦ inl (record { place = f.place; below = omega (arith, f.below); is_x = f.is_x; none = f.none })
    | inr none ↦ elim (eqb_tells (slice_index is n) x) [
      | inl e ↦ inl (record { place = n; below = omega arith; is_x = e.1; none = none })
      | inr e ↦ inr (more none e.1)
    ]
  ]
    where
      more : ((q : ℕ) → q < n → slice_index is q ≢ x) → slice_index is n ≢ x → (q : ℕ) → q < suc n
          → slice_index is q ≢ x
      more none here q h = elim (eqb_tells q n) [
        | inl e ↦ subst (λ z. slice_index is z ≢ x) (sym e.1) here
        | inr e ↦ none q (let ne = e.1 in omega (arith, h, ne))
      ]

-- each place has a first place of the same number
pub first-of : (is : List ℕ) (q : ℕ) → q < length is
    → (p : ℕ) × (p < length is) × IsFirst is p × (slice_index is p ≡ slice_index is q)
first-of is q h = elim (first-below is (slice_index is q) (suc q)) [
  | inl f ↦ (
    f.place,
    (let b = f.below in omega (arith, b, h)),
    (λ r lt e. f.none r lt (e ∙ f.is_x)),
    f.is_x,
  )
  | inr none ↦ absurd (none q (omega arith) refl)
]
