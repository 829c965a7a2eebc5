-- Members of lists.
use Rattle.std.specs.List.{All, flat_map, list_any}
use Rattle.std.proofs.Common.{◌≡◌, ℕ, zero, suc, ◌<◌, ◌||◌, Bool, true, false, List, [], ◌∷◌, ◌++◌, length}
use Rattle.std.proofs.Common.{◌≤◌, ◌≢◌, map, take, slice_get, get_or, Some, refl, sym, ap, ◌∙◌, subst, inl, inr, ◌⊎◌}
use Rattle.std.proofs.Common.{arith}
use Rattle.std.proofs.lemmas.Option.{same_Some}
use Rattle.std.proofs.lemmas.List.Elements.{All-nil, All-cons, All-head, All-tail}
use Rattle.ot_logic.specs.Lists.{IsMember, IsPart, AreDistinct}

-- ---- of a list behind another
module _ {X : Type 0} where
  pub IsMember-left : (x : X) (xs ys : List X) → IsMember x xs → IsMember x (xs ++ ys)
  IsMember-left x (y ∷ xs) ys (inl h) = inl h
  IsMember-left x (y ∷ xs) ys (inr h) = inr (IsMember-left x xs ys h)
  IsMember-left x [] ys h = absurd h

  pub IsMember-right : (x : X) (xs ys : List X) → IsMember x ys → IsMember x (xs ++ ys)
  IsMember-right x [] ys h = h
  IsMember-right x (y ∷ xs) ys h = inr (IsMember-right x xs ys h)

  pub IsMember-cases : (x : X) (xs ys : List X) → IsMember x (xs ++ ys) → IsMember x xs ⊎ IsMember x ys
  IsMember-cases x [] ys h = inr h
  IsMember-cases x (y ∷ xs) ys (inl h) = inl (inl h)
  IsMember-cases x (y ∷ xs) ys (inr h) = elim (IsMember-cases x xs ys h) [ inl p ↦ inl (inr p) | inr p ↦ inr p ]

  -- ---- of a list with one more at its end
  pub IsMember-last : (x : X) (xs : List X) → IsMember x (xs ++ x ∷ [])
  IsMember-last x xs = IsMember-right x xs (x ∷ []) (inl refl)

  pub IsMember-push : (x : X) (xs : List X) (y : X) → IsMember x (xs ++ y ∷ []) → IsMember x xs ⊎ (y ≡ x)
  IsMember-push x xs y m = elim (IsMember-cases x xs (y ∷ []) m) [
    | inl p ↦ inl p
    | inr p ↦ elim p [ inl e ↦ inr e | inr h ↦ absurd h ]
  ]

  pub AreDistinct-push : (xs : List X) (y : X) → AreDistinct xs → ¬ (IsMember y xs) → AreDistinct (xs ++ y ∷ [])
  AreDistinct-push [] y d n = (λ m. m, tt)
  AreDistinct-push (x ∷ xs) y d n = (
    λ m. elim (IsMember-push x xs y m) [ inl h ↦ d.0 h | inr e ↦ n (inl (sym e)) ],
    AreDistinct-push xs y d.1 (λ m. n (inr m)),
  )

  -- ---- by their places
  pub IsMember-at : (xs : List X) (i : ℕ) (x : X) → slice_get xs i ≡ Some x → IsMember x xs
  IsMember-at [] i x h = cc
  IsMember-at (y ∷ xs) zero x h = inl (same_Some y x h)
  IsMember-at (y ∷ xs) (suc i) x h = inr (IsMember-at xs i x h)

  pub IsMember-get_or : (xs : List X) (i : ℕ) (d : X) → i < length xs → IsMember (get_or xs i d) xs
  IsMember-get_or [] i d h = absurd (omega arith)
  IsMember-get_or (x ∷ xs) zero d h = inl refl
  IsMember-get_or (x ∷ xs) (suc i) d h = inr (IsMember-get_or xs i d (omega arith))

  pub IsMember-place : (x : X) (xs : List X) → IsMember x xs → (i : ℕ) × (slice_get xs i ≡ Some x)
  IsMember-place x [] m = absurd m
  IsMember-place x (y ∷ xs) (inl e) = (0, ap Some e)
  IsMember-place x (y ∷ xs) (inr m) = let r = IsMember-place x xs m in (suc r.0, r.1)

  pub IsPart-take : (i : ℕ) (xs : List X) → IsPart (take i xs) xs
  IsPart-take zero xs x m = absurd m
  IsPart-take (suc i) [] x m = absurd m
  IsPart-take (suc i) (y ∷ xs) x (inl e) = inl e
  IsPart-take (suc i) (y ∷ xs) x (inr m) = inr (IsPart-take i xs x m)

  -- a list without one of its elements
  taken_out : (k : X) (ys : List X) → IsMember k ys → (zs : List X) × (length ys ≡ suc (length zs))
      × ((x : X) → IsMember x ys → x ≢ k → IsMember x zs)
  taken_out k [] m = absurd m
  taken_out k (y ∷ ys) (inl e) = (ys, refl, λ x i n. elim i [ inl d ↦ absurd (n (sym d ∙ e)) | inr j ↦ j ])
  taken_out k (y ∷ ys) (inr m) =
      let (zs, l, f) = taken_out k ys m in
      (y ∷ zs, ap suc l, λ x i n. elim i [ inl d ↦ inl d | inr j ↦ inr (f x j n) ])

  -- a list without repetition is no longer than one that has its members
  pub distinct-length : (ks ys : List X) → AreDistinct ks → IsPart ks ys → length ks ≤ length ys
  distinct-length [] ys d h = omega arith
  distinct-length (k ∷ ks) ys d h =
      let (zs, l, f) = taken_out k ys (h k (inl refl)) in
      let inside = λ (x : X) (i : IsMember x ks). f x (h x (inr i)) (λ e. d.0 (subst (λ z. IsMember z ks) e i)) in
      let p = distinct-length ks zs d.1 inside in
      omega arith

-- ---- what holds of each
pub All-from_members : {X : Type 0} (P : X → Type 0) (xs : List X) → ((x : X) → IsMember x xs → P x) → All P xs
All-from_members P [] h = All-nil P
All-from_members P (x ∷ xs) h = All-cons P x xs (h x (inl refl)) (All-from_members P xs (λ y m. h y (inr m)))

pub All-at_member : {X : Type 0} (P : X → Type 0) (xs : List X) (x : X) → All P xs → IsMember x xs → P x
All-at_member P [] x h m = absurd m
All-at_member P (y ∷ xs) x h (inl e) = subst P e (All-head P y xs h)
All-at_member P (y ∷ xs) x h (inr m) = All-at_member P xs x (All-tail P y xs h) m

-- a member that passes the test, where some does
pub member_from_any : {X : Type 0} (p : X → Bool) (xs : List X) → list_any p xs ≡ true
    → (x : X) × (p x ≡ true) × IsMember x xs
member_from_any p [] e = cc
member_from_any {X} p (y ∷ ys) e = by (member_from_any p ys) (p y) refl e
  where
    by : (list_any p ys ≡ true → (x : X) × (p x ≡ true) × IsMember x ys) → (t : Bool) → p y ≡ t
        → (t || list_any p ys) ≡ true
        → (x : X) × (p x ≡ true) × IsMember x (y ∷ ys)
    by next true q e = (y, q, inl refl)
    by next false q e = let w = next e in (w.0, w.1, inr w.2)

-- ---- images
module _ {X Y : Type 0} (f : X → Y) where
  pub IsMember-map : (x : X) (xs : List X) → IsMember x xs → IsMember (f x) (map f xs)
  IsMember-map x (y ∷ xs) (inl e) = inl (ap f e)
  IsMember-map x (y ∷ xs) (inr i) = inr (IsMember-map x xs i)
  IsMember-map x [] i = i

  pub IsMember-map_back : (y : Y) (xs : List X) → IsMember y (map f xs) → (x : X) × IsMember x xs × (f x ≡ y)
  IsMember-map_back y (x ∷ xs) (inl e) = (x, inl refl, e)
  IsMember-map_back y (x ∷ xs) (inr i) = let (z, j, e) = IsMember-map_back y xs i in (z, inr j, e)
  IsMember-map_back y [] i = absurd i

  pub IsPart-map : (xs ys : List X) → IsPart xs ys → IsPart (map f xs) (map f ys)
  IsPart-map xs ys h y m = let r = IsMember-map_back y xs m in
      subst (λ z. IsMember z (map f ys)) r.2 (IsMember-map r.0 ys (h r.0 r.1))

  pub map_agree : (g : X → Y) (xs : List X) → ((x : X) → IsMember x xs → f x ≡ g x) → map f xs ≡ map g xs
  map_agree g [] h = refl
  map_agree g (x ∷ xs) h = let p = h x (inl refl) in let q = map_agree g xs (λ z m. h z (inr m)) in λ i. p i ∷ q i

module _ {X Y : Type 0} (f : X → List Y) where
  pub IsMember-flat_map : (y : Y) (x : X) (xs : List X) → IsMember x xs → IsMember y (f x)
      → IsMember y (flat_map f xs)
  IsMember-flat_map y x [] m h = absurd m
  IsMember-flat_map y x (z ∷ xs) (inl e) h =
      IsMember-left y (f z) (flat_map f xs) (subst (λ z. IsMember y (f z)) (sym e) h)
  IsMember-flat_map y x (z ∷ xs) (inr m) h = IsMember-right y (f z) (flat_map f xs) (IsMember-flat_map y x xs m h)

  pub IsMember-flat_map_back : (y : Y) (xs : List X) → IsMember y (flat_map f xs) → (x : X) × IsMember x xs
      × IsMember y (f x)
  IsMember-flat_map_back y [] m = absurd m
  IsMember-flat_map_back y (x ∷ xs) m = elim (IsMember-cases y (f x) (flat_map f xs) m) [
    | inl a ↦ (x, inl refl, a)
    | inr b ↦ let r = IsMember-flat_map_back y xs b in (r.0, inr r.1, r.2)
  ]
