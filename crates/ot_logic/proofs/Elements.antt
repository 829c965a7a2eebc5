-- Elements of lists by their places.
use Rattle.std.specs.List.{All, AllByRecursion, list_any, position_or_len}
use Rattle.std.proofs.Common.{◌≡◌, ◌≢◌, ℕ, zero, suc, ◌+◌, ◌<◌, ◌≤◌, ◌||◌, Bool, true, false}
use Rattle.std.proofs.Common.{cond, not, List, [], ◌∷◌, ◌++◌, length, map, drop, set, slice_get}
use Rattle.std.proofs.Common.{get_or, Some, refl, sym, ap, ◌∙◌, subst, arith, drop-cons, add-one}
use Rattle.std.proofs.lemmas.Option.{same_Some}
use Rattle.std.proofs.lemmas.List.Elements.{All-head, All-tail}

module _ {X : Type 0} where
  pub slice_get-low : (xs : List X) (i : ℕ) (x : X) → slice_get xs i ≡ Some x → i < length xs
  slice_get-low [] i x e = absurd (cc)
  slice_get-low (y ∷ xs) zero x e = omega arith
  slice_get-low (y ∷ xs) (suc i) x e = let h = slice_get-low xs i x e in omega arith

  pub slice_get-there : (xs : List X) (i : ℕ) → i < length xs → (x : X) × (slice_get xs i ≡ Some x)
  slice_get-there [] i h = absurd (omega arith)
  slice_get-there (x ∷ xs) zero h = (x, refl)
  slice_get-there (x ∷ xs) (suc i) h = slice_get-there xs i (omega arith)

  pub slice_get-set_same : (xs : List X) (i : ℕ) (x : X) → i < length xs → slice_get (set xs i x) i ≡ Some x
  slice_get-set_same [] i x h = absurd (omega arith)
  slice_get-set_same (y ∷ xs) zero x h = refl
  slice_get-set_same (y ∷ xs) (suc i) x h = slice_get-set_same xs i x (omega arith)

  pub slice_get-set_other : (xs : List X) (i j : ℕ) (x : X) → j ≢ i → slice_get (set xs i x) j ≡ slice_get xs j
  slice_get-set_other [] i j x h = refl
  slice_get-set_other (y ∷ xs) zero zero x h = absurd (h refl)
  slice_get-set_other (y ∷ xs) zero (suc j) x h = refl
  slice_get-set_other (y ∷ xs) (suc i) zero x h = refl
  slice_get-set_other (y ∷ xs) (suc i) (suc j) x h = slice_get-set_other xs i j x (λ e. h (ap suc e))

  pub drop-item : (xs : List X) (i : ℕ) (x : X) → i < length xs → x ≡ get_or xs i x → drop i xs ≡ x ∷ drop (i + 1) xs
  drop-item xs i x h e = drop-cons xs i x h ∙ (λ j. sym e j ∷ drop (sym (add-one i) j) xs)

  pub position-bound : (p : X → Bool) (xs : List X) → position_or_len p xs ≤ length xs
  position-bound p [] = omega arith
  position-bound p (x ∷ xs) = by (p x) (position-bound p xs)
    where
      by : (b : Bool) → position_or_len p xs ≤ length xs → cond (not b) (1 + position_or_len p xs) 0 ≤ suc (length xs)
      by true h = omega arith
      by false h = omega (arith, h)

  -- ---- what holds of each
  pub All-slice_get : (P : X → Type 0) (xs : List X) (i : ℕ) (x : X) → All P xs → slice_get xs i ≡ Some x → P x
  All-slice_get P [] i x h e = cc
  All-slice_get P (y ∷ xs) zero x h e = subst P (same_Some y x e) (All-head P y xs h)
  All-slice_get P (y ∷ xs) (suc i) x h e = All-slice_get P xs i x (All-tail P y xs h) e

  pub AllByRecursion-append : (P : X → Type 0) (xs ys : List X) → AllByRecursion P xs → AllByRecursion P ys
      → AllByRecursion P (xs ++ ys)
  AllByRecursion-append P [] ys h k = k
  AllByRecursion-append P (x ∷ xs) ys h k = (h.0, AllByRecursion-append P xs ys h.1 k)

  pub AllByRecursion-push : (P : X → Type 0) (xs : List X) (x : X) → AllByRecursion P xs → P x
      → AllByRecursion P (xs ++ x ∷ [])
  AllByRecursion-push P xs x h p = AllByRecursion-append P xs (x ∷ []) h (p, tt)

-- ---- images
module _ {X Y : Type 0} (f : X → Y) where
  pub slice_get-map : (xs : List X) (i : ℕ) (x : X) → slice_get xs i ≡ Some x → slice_get (map f xs) i ≡ Some (f x)
  slice_get-map [] i x h = cc
  slice_get-map (y ∷ xs) zero x h = ap (λ z. Some (f z)) (same_Some y x h)
  slice_get-map (y ∷ xs) (suc i) x h = slice_get-map xs i x h

  pub list_any-image : (p : Y → Bool) (q : X → Bool) → ((x : X) → p (f x) ≡ q x) → (xs : List X)
      → list_any p (map f xs) ≡ list_any q xs
  list_any-image p q h [] = refl
  list_any-image p q h (x ∷ xs) = λ i. h x i || list_any-image p q h xs i
