-- Lemmas on tables that only grow.
use Rattle.std.proofs.Common.{◌≡◌, ℕ, zero, suc, ◌<◌, Bool, true, false, List, [], ◌∷◌, ◌++◌, length, slice_get}
use Rattle.std.proofs.Common.{get_or, Some, sym, ap, ◌∙◌, true≢false, arith, if◌then◌else◌, length-append}
use Rattle.std.proofs.lemmas.Option.{get_or_from_slice_get, slice_get_within, slice_get-get_or, none-some}
use Rattle.std.proofs.lemmas.Map.Keys.{apart_from_distinct}
use Rattle.std.specs.List.{IsDistinct, list_any}
use Rattle.indexmap.specs.IndexSet.{insert_key}
use Rattle.ot_logic.specs.Table.{Extends, IsInjective}

pub slice_get-append_left : {X : Type 0} (xs ys : List X) (i : ℕ) (x : X) → slice_get xs i ≡ Some x
    → slice_get (xs ++ ys) i ≡ Some x
slice_get-append_left [] ys i x p = absurd (none-some x p)
slice_get-append_left (y ∷ xs) ys zero x p = p
slice_get-append_left (y ∷ xs) ys (suc i) x p = slice_get-append_left xs ys i x p

module _ {X : Type 0} where
  pub Extends-refl : (xs : List X) → Extends xs xs
  Extends-refl xs = record { keeps = λ i x p. p; longer = omega arith }

  pub Extends-trans : {xs ys zs : List X} → Extends xs ys → Extends ys zs → Extends xs zs
  Extends-trans {xs} {ys} {zs} a b =
      record { keeps = λ i x p. b.keeps i x (a.keeps i x p); longer = omega (arith, a.longer, b.longer) }

  pub Extends-append : (xs ys : List X) → Extends xs (xs ++ ys)
  Extends-append xs ys =
      record { keeps = λ i x. slice_get-append_left xs ys i x; longer = omega (arith, length-append xs ys) }

  -- what an `insert` leaves extends what was there
  pub Extends-insert_key : (eq : X → X → Bool) (xs : List X) (x : X) → Extends xs (insert_key eq xs x)
  Extends-insert_key eq xs x = elim (list_any (eq x) xs) as (λ b. Extends xs (if b then xs else xs ++ x ∷ []))
      [ true ↦ Extends-refl xs | false ↦ Extends-append xs (x ∷ []) ]

  -- keys that a test tells apart are one at each place
  pub injective_from_distinct : (eq : X → X → Bool) → ((x : X) → eq x x ≡ true) → (xs : List X) → IsDistinct eq xs
      → IsInjective xs
  injective_from_distinct eq same xs d = record { same = ordered }
    where
      apart : (i j : ℕ) (x : X) → slice_get xs i ≡ Some x → slice_get xs j ≡ Some x → i < j → ⊥
      apart i j x p q h =
          let within : j < length xs = slice_get_within xs j x q in
          let differ : eq (get_or xs i x) (get_or xs j x) ≡ false = apart_from_distinct eq xs i j x d h within in
          let left : get_or xs i x ≡ x = get_or_from_slice_get xs i x x p in
          let right : get_or xs j x ≡ x = get_or_from_slice_get xs j x x q in
          true≢false (sym (same x) ∙ (λ k. eq (sym left k) (sym right k)) ∙ differ)

      ordered : (i j : ℕ) (x : X) → slice_get xs i ≡ Some x → slice_get xs j ≡ Some x → i ≡ j
      ordered i j x p q =
          let up : i < j → ⊥ = apart i j x p q in
          let down : j < i → ⊥ = apart j i x q p in
          omega (arith, up, down)

  -- by a number below the length: it keeps its entry, and another number has another entry
  pub get_or-Extends : (xs ys : List X) → Extends xs ys → (i : ℕ) (d : X) → i < length xs
      → get_or ys i d ≡ get_or xs i d
  get_or-Extends xs ys e i d h = get_or_from_slice_get ys i _ d (e.keeps i _ (slice_get-get_or xs i d h))

  pub get_or-IsInjective : (xs : List X) → IsInjective xs → (i j : ℕ) (d : X) → i < length xs → j < length xs
      → get_or xs i d ≡ get_or xs j d → i ≡ j
  get_or-IsInjective xs one i j d h k p =
      one.same i j _ (slice_get-get_or xs i d h) (slice_get-get_or xs j d k ∙ ap Some (sym p))
