-- Lists with each member once, and maps by their keys.
use Rattle.std.specs.Prelude.{◌≢◌}
use Rattle.std.specs.Bool.{Decides}
use Rattle.std.proofs.Common.{◌≡◌, Bool, true, false, cond, List, [], ◌∷◌}
use Rattle.std.proofs.Common.{map, refl, sym, ap, ◌∙◌, inl, inr}
use Rattle.ot_logic.specs.Lists.{IsMember, AreDistinct}
use Rattle.ot_laws.proofs.Tests.{cases_of}
use Rattle.ot_match.specs.Matching.{without, each_once, keys}
use Rattle.ot_logic.proofs.Members.{map_agree}

-- what a function does to a list, when the test goes along with it
module _ {A B : Type 0} (same : A → A → Bool) (alike : B → B → Bool) (f : A → B)
    (fits : (x y : A) → alike (f x) (f y) ≡ same x y) where
  without-map : (x : A) (ys : List A) → without alike (f x) (map f ys) ≡ map f (without same x ys)
  without-map x [] = refl
  without-map x (y ∷ ys) = go (same y x) refl (without-map x ys)
    where
      go : (b : Bool) → same y x ≡ b → without alike (f x) (map f ys) ≡ map f (without same x ys)
          → without alike (f x) (map f (y ∷ ys)) ≡ map f (without same x (y ∷ ys))
      go true e w = rw (fits y x, e) w
      go false e w = rw (fits y x, e) (ap (λ zs. f y ∷ zs) w)

  pub each_once-map : (xs : List A) → each_once alike (map f xs) ≡ map f (each_once same xs)
  each_once-map [] = refl
  each_once-map (x ∷ xs) = rw (each_once-map xs) (ap (λ zs. f x ∷ zs) (without-map x (each_once same xs)))

module _ {A : Type 0} (same : A → A → Bool) (tells : (x y : A) → Decides (same x y) (x ≡ y)) where
  without-member : (x z : A) (ys : List A) → IsMember z (without same x ys) → (z ≢ x) × IsMember z ys
  without-member x z [] h = absurd h
  without-member x z (y ∷ ys) h = elim (cases_of (same y x) (tells y x)) [
    | inl p ↦
        let k : IsMember z (without same x ys) = rw p.0 at h in
        let q = without-member x z ys k in (q.0, inr q.1)
    | inr p ↦
        let k : IsMember z (y ∷ without same x ys) = rw p.0 at h in
        elim k [
          | inl e ↦ ((λ d. p.1 (e ∙ d)), inl e)
          | inr j ↦ let q = without-member x z ys j in (q.0, inr q.1)
        ]
  ]

  without-distinct : (x : A) (ys : List A) → AreDistinct ys → AreDistinct (without same x ys)
  without-distinct x [] d = d
  without-distinct x (y ∷ ys) d = elim (cases_of (same y x) (tells y x)) [
    | inl p ↦ rw p.0 (without-distinct x ys d.1)
    | inr p ↦ rw p.0 ((λ i. d.0 (without-member x y ys i).1), without-distinct x ys d.1)
  ]

  pub each_once-distinct : (xs : List A) → AreDistinct (each_once same xs)
  each_once-distinct [] = tt
  each_once-distinct (x ∷ xs) = (
    (λ i. (without-member x x (each_once same xs) i).0 refl),
    without-distinct x (each_once same xs)
        (each_once-distinct xs),
  )

  without-kept : (x z : A) (ys : List A) → z ≢ x → IsMember z ys → IsMember z (without same x ys)
  without-kept x z [] n h = absurd h
  without-kept x z (y ∷ ys) n h = elim (cases_of (same y x) (tells y x)) [
    | inl p ↦ rw p.0 (elim h [ inl e ↦ absurd (n (sym e ∙ p.1)) | inr j ↦ without-kept x z ys n j ])
    | inr p ↦ rw p.0 (elim h [ inl e ↦ inl e | inr j ↦ inr (without-kept x z ys n j) ])
  ]

  pub each_once-member : (z : A) (xs : List A) → IsMember z xs → IsMember z (each_once same xs)
  each_once-member z [] h = absurd h
  each_once-member z (x ∷ xs) h = elim (cases_of (same z x) (tells z x)) [
    | inl p ↦ inl (sym p.1)
    | inr p ↦ elim h [
      | inl e ↦ inl e
      | inr j ↦ inr (without-kept x z (each_once same xs) p.1 (each_once-member z xs j))
    ]
  ]

-- a map of which the first pair for a key counts
module _ {K X : Type 0} (same : K → K → Bool) (tells : (x y : K) → Decides (same x y) (x ≡ y)) (at : List (K × X) → K
    → X) (step : (p : K × X) (m : List (K × X)) (k : K) → at (p ∷ m) k ≡ cond (same k p.0) p.1 (at m k)) where
  at-here : (p : K × X) (m : List (K × X)) → at (p ∷ m) p.0 ≡ p.1
  at-here p m = elim (cases_of (same p.0 p.0) (tells p.0 p.0)) [
    | inl q ↦ rw (step p m p.0, q.0) refl
    | inr q ↦ absurd (q.1 refl)
  ]

  at-later : (p : K × X) (m : List (K × X)) (k : K) → k ≢ p.0 → at (p ∷ m) k ≡ at m k
  at-later p m k n = elim (cases_of (same k p.0) (tells k p.0)) [
    | inl q ↦ absurd (n q.1)
    | inr q ↦ rw (step p m k, q.0) refl
  ]

  -- the map is given by its keys and what it has at each
  pub by-keys : (m : List (K × X)) → AreDistinct (keys m) → map (λ k. (k, at m k)) (keys m) ≡ m
  by-keys [] d = refl
  by-keys (p ∷ m) d =
      let q : map (λ k. (k, at (p ∷ m) k)) (keys m) ≡ map (λ k. (k, at m k)) (keys m) =
      map_agree (λ k. (k, at (p ∷ m) k)) (λ k. (k, at m k)) (keys m)
      (λ k i. λ j. (k, at-later p m k (λ e. d.0 (rw (← e) i)) j)) in
      λ i. (p.0, at-here p m i) ∷ (q ∙ by-keys m d.1) i

  -- a map made from a function has its value at each key
  pub at-graph : (f : K → X) (k : K) (ks : List K) → IsMember k ks → at (map (λ y. (y, f y)) ks) k ≡ f k
  at-graph f k [] i = absurd i
  at-graph f k (y ∷ ks) i = elim (cases_of (same k y) (tells k y)) [
    | inl q ↦ rw (step (y, f y) (map (λ z. (z, f z)) ks) k, q.0) (ap f (sym q.1))
    | inr q ↦ elim i [
      | inl e ↦ absurd (q.1 (sym e))
      | inr j ↦ at-later (y, f y) (map (λ z. (z, f z)) ks) k q.1 ∙ at-graph f k ks j
    ]
  ]
