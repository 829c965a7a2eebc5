-- Members of lists, by the test and by recursion.
use Rattle.std.specs.List.{list_any}
use Rattle.std.specs.Bool.{Decides}
use Rattle.std.proofs.Common.{◌≡◌, Bool, List, [], ◌∷◌, ◌++◌, ◌⊎◌, true, false}
use Rattle.std.proofs.Common.{inl, inr, ap, ◌∙◌, refl}
use Rattle.std.proofs.lemmas.Bool.{or_cases, or_left, or_right, both_ways}
use Rattle.ot_logic.specs.Lists.{IsMember}

module _ {K : Type 0} (same : K → K → Bool) (tells : (x y : K) → Decides (same x y) (x ≡ y)) where
  pub member_from_test : (ks : List K) (k : K) → list_any (λ x. same x k) ks ≡ true → IsMember k ks
  member_from_test [] k e = cc
  member_from_test (x ∷ xs) k e = elim (or_cases (same x k) (list_any (λ y. same y k) xs) e) [
    | inl s ↦ inl ((tells x k).0 s)
    | inr later ↦ inr (member_from_test xs k later)
  ]

  pub test_from_member : (ks : List K) (k : K) → IsMember k ks → list_any (λ x. same x k) ks ≡ true
  test_from_member [] k m = absurd m
  test_from_member (x ∷ xs) k m = elim m [
    | inl s ↦ or_left (same x k) (list_any (λ y. same y k) xs) ((tells x k).1 s)
    | inr later ↦ or_right (same x k) (list_any (λ y. same y k) xs) (test_from_member xs k later)
  ]

  pub apart_from_test : (ks : List K) (k : K) → list_any (λ x. same x k) ks ≡ false → ¬ (IsMember k ks)
  apart_from_test ks k e m = both_ways (list_any (λ x. same x k) ks) e (test_from_member ks k m)

module _ {X : Type 0} where
  pub member_end : (xs : List X) (y : X) → IsMember y (xs ++ y ∷ [])
  member_end [] y = inl refl
  member_end (z ∷ xs) y = inr (member_end xs y)

  not_nil : (xs : List X) (y : X) (ys : List X) → [] ≡ xs ++ y ∷ ys → ⊥
  not_nil [] y ys e = cc
  not_nil (x ∷ xs) y ys e = cc

  -- a list with one more at its end is cut at that end, or before it
  pub cut_push : (xs : List X) (y : X) (front : List X) (x : X) (back : List X) → xs ++ y ∷ [] ≡ front ++ x ∷ back
      → ((xs ≡ front) × (y ≡ x)) ⊎ ((left : List X) × (xs ≡ front ++ x ∷ left))
  cut_push [] y [] x back e = inl (refl, cc)
  cut_push [] y (f ∷ fs) x back e = let rest : [] ≡ fs ++ x ∷ back = cc in absurd (not_nil fs x back rest)
  cut_push (z ∷ zs) y [] x back e = let same : z ≡ x = cc in inr (zs, ap (λ w. w ∷ zs) same)
  cut_push (z ∷ zs) y (f ∷ fs) x back e =
      let same : z ≡ f = cc in
      let rest : zs ++ y ∷ [] ≡ fs ++ x ∷ back = cc in
      elim (cut_push zs y fs x back rest) [
        | inl h ↦ inl (ap (λ w. w ∷ zs) same ∙ ap (λ w. f ∷ w) h.0, h.1)
        | inr h ↦ inr (h.0, ap (λ w. w ∷ zs) same ∙ ap (λ w. f ∷ w) h.1)
      ]

  -- a member, with what stands before and behind it
  pub split_member : (x : X) (ys : List X) → IsMember x ys → (front : List X) × (back : List X)
      × (ys ≡ front ++ x ∷ back)
  split_member x [] m = absurd m
  split_member x (y ∷ ys) (inl e) = ([], ys, ap (λ z. z ∷ ys) e)
  split_member x (y ∷ ys) (inr m) = let (front, back, e) = split_member x ys m in
      (y ∷ front, back, ap (λ zs. y ∷ zs) e)
