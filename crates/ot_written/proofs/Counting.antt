-- How often an element stands in a list.
use Rattle.std.proofs.Common.{◌≡◌, ◌≢◌, ℕ, suc, ◌+◌, ◌<◌, ◌≤◌, inl, inr, Bool, true, false}
use Rattle.std.proofs.Common.{cond, List, [], ◌∷◌, ◌++◌, refl, sym, ap, subst, ◌∙◌, arith}
use Rattle.std.specs.Bool.{Decides}
use Rattle.std.specs.List.{flat_map}
use Rattle.ot_logic.specs.Lists.{IsMember, AreDistinct}
use Rattle.ot_trace.specs.Uses.{count}

module _ {X : Type 0} (same : X → X → Bool) (same-is : (a b : X) → Decides (same a b) (a ≡ b)) where
  abbrev counted : X → List X → ℕ
  counted = count same

  pub count-append : (x : X) (xs ys : List X) → counted x (xs ++ ys) ≡ counted x xs + counted x ys
  count-append x [] ys = omega arith
  count-append x (y ∷ xs) ys = go (same x y) (count-append x xs ys)
    where
      go : (b : Bool) → counted x (xs ++ ys) ≡ counted x xs + counted x ys → cond b (suc (counted x (xs ++ ys)))
          (counted x (xs ++ ys)) ≡ cond b (suc (counted x xs)) (counted x xs) + counted x ys
      go true e = omega arith
      go false e = e

  -- one more in front, on either side
  pub count-moved : (x y : X) (xs ys : List X) → counted x (y ∷ xs) + counted x ys ≡ counted x xs + counted x (y ∷ ys)
  count-moved x y xs ys = go (same x y)
    where
      go : (b : Bool) → cond b (suc (counted x xs)) (counted x xs) + counted x ys ≡ counted x xs
          + cond b (suc (counted x ys)) (counted x ys)
      go true = omega arith
      go false = refl

  pub count-self : (x : X) (xs : List X) → counted x (x ∷ xs) ≡ suc (counted x xs)
  count-self x xs = let e : same x x ≡ true = (same-is x x).1 refl in rw e refl

  pub count-more : (x y : X) (xs : List X) → counted x xs ≤ counted x (y ∷ xs)
  count-more x y xs = go (same x y)
    where
      go : (b : Bool) → counted x xs ≤ cond b (suc (counted x xs)) (counted x xs)
      go true = omega arith
      go false = omega arith

  pub count-member : (x : X) (xs : List X) → IsMember x xs → 0 < counted x xs
  count-member x [] m = elim m [ ]
  count-member x (y ∷ xs) (inl e) = let f : same x y ≡ true = (same-is x y).1 (sym e) in rw f (omega arith)
  count-member x (y ∷ xs) (inr m) = let h = count-member x xs m in let k = count-more x y xs in omega arith

  -- taking one element out
  pub without-one : (f : X → List X) (y : X) (zs : List X) → IsMember y zs
      → (ws : List X) × ((x : X) → IsMember x zs → x ≢ y → IsMember x ws)
      × ((a : X) → counted a (flat_map f zs) ≡ counted a (f y) + counted a (flat_map f ws))
  without-one f y [] m = elim m [ ]
  without-one f y (z ∷ zs) (inl e) = (
    zs,
    λ x m n. elim m [ inl p ↦ absurd (n (sym p ∙ e)) | inr p ↦ p ],
    λ a. count-append a (f z) (flat_map f zs)
        ∙ ap (λ q. counted a (f q) + counted a (flat_map f zs)) e,
  )
  without-one f y (z ∷ zs) (inr m) =
      let r = without-one f y zs m in (
        z ∷ r.0,
        λ x m n. elim m [ inl p ↦ inl p | inr p ↦ inr (r.1 x p n) ],
        λ a. let p = count-append a (f z) (flat_map f zs) in let q = count-append a (f z) (flat_map f r.0) in
            let h = r.2 a in omega arith,
      )

  -- distinct members have no more together than the list
  pub sum-part : (f : X → List X) (ms zs : List X) → AreDistinct ms → ((x : X) → IsMember x ms → IsMember x zs)
      → (a : X) → counted a (flat_map f ms) ≤ counted a (flat_map f zs)
  sum-part f [] zs d h a = omega arith
  sum-part f (y ∷ ms) zs d h a =
      let r = without-one f y zs (h y (inl refl)) in
      let rest = sum-part f ms r.0 d.1 (λ x m. r.1 x (h x (inr m)) (λ e. d.0 (subst (λ z. IsMember z ms) e m))) a in
      let p = count-append a (f y) (flat_map f ms) in
      let q = r.2 a in
      omega arith
