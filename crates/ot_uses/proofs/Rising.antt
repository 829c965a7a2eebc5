-- Lists of numbers in rising order are told by their members.
use Rattle.std.specs.Prelude.{◌↔◌}
use Rattle.std.specs.List.Sorted.{IsStrictlyIncreasing}
use Rattle.std.proofs.Common.{◌≡◌, ℕ, zero, suc, ◌+◌, ◌<◌, ◌≤◌, inl, inr, List, [], ◌∷◌, length, slice_index}
use Rattle.std.proofs.Common.{refl, sym, subst, arith}
use Rattle.ot_logic.specs.Lists.{IsMember}

-- each is above the one before it, the first at least b
abbrev pub RisesFrom : ℕ → List ℕ → Type 0
RisesFrom b [] = Unit {0}
RisesFrom b (x ∷ xs) = (b ≤ x) × RisesFrom (suc x) xs

pub rises-lower : (a b : ℕ) (xs : List ℕ) → a ≤ b → RisesFrom b xs → RisesFrom a xs
rises-lower a b [] le r = tt
rises-lower a b (x ∷ xs) le r = (omega (arith, le, r.0), r.1)

pub rises-from : (b : ℕ) (xs : List ℕ) → (0 < length xs → b ≤ slice_index xs 0) → IsStrictlyIncreasing xs
    → RisesFrom b xs
rises-from b [] low r = tt
rises-from b (x ∷ xs) low r = (
  low (omega arith),
  rises-from (suc x) xs (λ h. let q : x < slice_index xs 0 = r 0 (omega (arith, h)) in omega (arith, q)) (λ k h.
      let e : suc k + 1 ≡ suc (k + 1) = omega arith in
      subst (λ n. slice_index xs k < slice_index (x ∷ xs) n) e (r (suc k) (omega (arith, h)))),
)

least : (b : ℕ) (xs : List ℕ) (p : ℕ) → RisesFrom b xs → IsMember p xs → b ≤ p
least b [] p r m = absurd m
least b (x ∷ xs) p r (inl e) = omega (arith, e, r.0)
least b (x ∷ xs) p r (inr m) = let q = least (suc x) xs p r.1 m in omega (arith, q, r.0)

-- the members of the rest are above the first
rest : (x : ℕ) (xs ys : List ℕ) → RisesFrom (suc x) xs
    → ((p : ℕ) → IsMember p (x ∷ xs) → IsMember p (x ∷ ys)) → (p : ℕ) → IsMember p xs → IsMember p ys
rest x xs ys r to p m = elim (to p (inr m)) [
  | inl e ↦ absurd (let low = least (suc x) xs p r m in omega (arith, low, e))
  | inr n ↦ n
]

pub same-rising : (a b : ℕ) (xs ys : List ℕ) → RisesFrom a xs → RisesFrom b ys
    → ((p : ℕ) → IsMember p xs → IsMember p ys) → ((p : ℕ) → IsMember p ys → IsMember p xs) → xs ≡ ys
same-rising a b [] [] r s to back = refl
same-rising a b [] (y ∷ ys) r s to back = absurd (back y (inl refl))
same-rising a b (x ∷ xs) [] r s to back = absurd (to x (inl refl))
same-rising a b (x ∷ xs) (y ∷ ys) r s to back =
    go y (sym first) s to back (λ t f g. same-rising (suc x) (suc x) xs ys r.1 t f g)
  where
    first : x ≡ y
    first = elim (to x (inl refl)) [
      | inl e ↦ sym e
      | inr m ↦ elim (back y (inl refl)) [
        | inl e ↦ e
        | inr n ↦
            let above = least (suc y) ys x s.1 m in
            let below = least (suc x) xs y r.1 n in
            absurd (omega (arith, above, below))
      ]
    ]

    go : (z : ℕ) → z ≡ x → RisesFrom b (z ∷ ys) → ((p : ℕ) → IsMember p (x ∷ xs) → IsMember p (z ∷ ys))
        → ((p : ℕ) → IsMember p (z ∷ ys) → IsMember p (x ∷ xs))
        → (RisesFrom (suc x) ys → ((p : ℕ) → IsMember p xs → IsMember p ys)
        → ((p : ℕ) → IsMember p ys → IsMember p xs) → xs ≡ ys)
        → x ∷ xs ≡ z ∷ ys
    go z e t f g tails =
        let u = subst (λ z. RisesFrom (suc z) ys) e t.1 in
        let there = subst (λ z. (p : ℕ) → IsMember p (x ∷ xs) → IsMember p (z ∷ ys)) e f in
        let here = subst (λ z. (p : ℕ) → IsMember p (z ∷ ys) → IsMember p (x ∷ xs)) e g in
        let q = tails u (rest x xs ys r.1 there) (rest x ys xs u here) in
        λ i. sym e i ∷ q i

-- two lists with the same members
pub one-rising : (xs ys : List ℕ) (P : ℕ → Type 0) → IsStrictlyIncreasing xs → ((p : ℕ) → IsMember p xs ↔ P p)
    → RisesFrom 0 ys → ((p : ℕ) → IsMember p ys ↔ P p) → xs ≡ ys
one-rising xs ys P r is s also =
    same-rising 0 0 xs ys (rises-from 0 xs (λ h. omega arith) r) s (λ p m. (also p).1 ((is p).0 m))
    (λ p m. (is p).1 ((also p).0 m))
