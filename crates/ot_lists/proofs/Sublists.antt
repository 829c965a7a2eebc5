-- Lists without repetition, and their parts.
use Rattle.std.specs.Prelude.{remove}
use Rattle.std.specs.Option.{option_map}
use Rattle.std.proofs.Common.{◌≡◌, ℕ, zero, suc, ◌<◌, Bool, true, false, cond, nat_eq, eqb-true, eq-eqb}
use Rattle.std.proofs.Common.{List, [], ◌∷◌, ◌++◌, length, None, Some, refl, sym, ap, subst, ◌∙◌}
use Rattle.std.proofs.Common.{inl, inr, zero-add, suc-add, ◌+◌, arith}
use Rattle.std.proofs.lemmas.List.{nil_from_length}
use Rattle.std.specs.Global.{Vec}
use Rattle.ot_logic.specs.Lists.{IsMember, IsPart, AreDistinct}
use Rattle.ot_logic.proofs.Members.{IsMember-left, IsMember-right, IsMember-cases}
use Rattle.ot_lists.specs.Places.{place_in}

module _ {X : Type 0} where
  pub back-distinct : (xs ys : List X) → AreDistinct (xs ++ ys) → AreDistinct ys
  back-distinct [] ys d = d
  back-distinct (x ∷ xs) ys d = back-distinct xs ys d.1

  -- one in the middle stands nowhere else
  pub middle-before : (xs ys : List X) (x : X) → AreDistinct (xs ++ x ∷ ys) → ¬ (IsMember x xs)
  middle-before [] ys x d m = m
  middle-before (y ∷ xs) ys x d (inl e) = d.0 (IsMember-right y xs (x ∷ ys) (inl (sym e)))
  middle-before (y ∷ xs) ys x d (inr m) = middle-before xs ys x d.1 m

  -- no element is of both parts
  pub parts-apart : (xs ys : List X) → AreDistinct (xs ++ ys) → (x : X) → IsMember x xs → IsMember x ys → ⊥
  parts-apart [] ys d x m n = m
  parts-apart (y ∷ xs) ys d x (inl e) n = d.0 (IsMember-right y xs ys (subst (λ z. IsMember z ys) (sym e) n))
  parts-apart (y ∷ xs) ys d x (inr m) n = parts-apart xs ys d.1 x m n

  -- a list without repetition is cut at an element in one way
  pub cut-one : (xs zs ys ws : List X) (x : X) → xs ++ x ∷ ys ≡ zs ++ x ∷ ws → AreDistinct (xs ++ x ∷ ys)
      → (xs ≡ zs) × (ys ≡ ws)
  cut-one [] [] ys ws x e d = let rest : ys ≡ ws = cc in (refl, rest)
  cut-one [] (z ∷ zs) ys ws x e d =
      let rest : ys ≡ zs ++ x ∷ ws = cc in
      absurd (d.0 (subst (IsMember x) (sym rest) (IsMember-right x zs (x ∷ ws) (inl refl))))
  cut-one (y ∷ xs) [] ys ws x e d =
      let first : y ≡ x = cc in absurd (d.0 (IsMember-right y xs (x ∷ ys) (inl (sym first))))
  cut-one (y ∷ xs) (z ∷ zs) ys ws x e d =
      let first : y ≡ z = cc in
      let rest : xs ++ x ∷ ys ≡ zs ++ x ∷ ws = cc in
      let (p, q) = cut-one xs zs ys ws x rest d.1 in
      (λ i. first i ∷ p i, q)

  pub cut-some : (xs ys : List X) (x : X) → xs ++ x ∷ ys ≡ [] → ⊥
  cut-some [] ys x e = cc
  cut-some (z ∷ xs) ys x e = cc

  -- without the one in the middle
  pub middle-part : (xs ys : List X) (x : X) → IsPart (xs ++ ys) (xs ++ x ∷ ys)
  middle-part xs ys x y m = elim (IsMember-cases y xs ys m) [
    | inl p ↦ IsMember-left y xs (x ∷ ys) p
    | inr p ↦ IsMember-right y xs (x ∷ ys) (inr p)
  ]

  pub middle-distinct : (xs ys : List X) (x : X) → AreDistinct (xs ++ x ∷ ys) → AreDistinct (xs ++ ys)
  middle-distinct [] ys x d = d.1
  middle-distinct (z ∷ xs) ys x d = (λ m. d.0 (middle-part xs ys x z m), middle-distinct xs ys x d.1)

  pub removed-part : (xs : List X) (p : ℕ) → IsPart (remove xs p) xs
  removed-part [] zero x m = m
  removed-part [] (suc p) x m = m
  removed-part (y ∷ xs) zero x m = inr m
  removed-part (y ∷ xs) (suc p) x (inl e) = inl e
  removed-part (y ∷ xs) (suc p) x (inr m) = inr (removed-part xs p x m)

  pub removed-distinct : (xs : List X) (p : ℕ) → AreDistinct xs → AreDistinct (remove xs p)
  removed-distinct [] zero d = tt
  removed-distinct [] (suc p) d = tt
  removed-distinct (y ∷ xs) zero d = d.1
  removed-distinct (y ∷ xs) (suc p) d = (λ m. d.0 (removed-part xs p y m), removed-distinct xs p d.1)

  -- the one in the middle is removed, or one before it, or one behind it
  pub removed-middle : (xs ys : List X) (x : X) → remove (xs ++ x ∷ ys) (length xs) ≡ xs ++ ys
  removed-middle [] ys x = refl
  removed-middle (z ∷ xs) ys x = ap (λ l. z ∷ l) (removed-middle xs ys x)

  pub removed-before : (xs ys : List X) (x : X) (p : ℕ) → p < length xs
      → remove (xs ++ x ∷ ys) p ≡ remove xs p ++ x ∷ ys
  removed-before [] ys x p h = absurd (omega arith)
  removed-before (z ∷ xs) ys x zero h = refl
  removed-before (z ∷ xs) ys x (suc p) h = ap (λ l. z ∷ l) (removed-before xs ys x p (omega arith))

  pub removed-behind : (xs ys : List X) (x : X) (p : ℕ)
      → remove (xs ++ x ∷ ys) (length xs + suc p) ≡ xs ++ x ∷ remove ys p
  removed-behind [] ys x p = ap (λ n. remove (x ∷ ys) n) (zero-add (suc p))
  removed-behind (z ∷ xs) ys x p =
      ap (remove (z ∷ xs ++ x ∷ ys)) (suc-add (length xs) (suc p)) ∙ ap (λ l. z ∷ l) (removed-behind xs ys x p)

-- ---- places of numbers
pub place-absent : (xs : List ℕ) (x : ℕ) → ¬ (IsMember x xs) → place_in xs x ≡ None
place-absent [] x n = refl
place-absent (y ∷ xs) x n = by (place-absent xs x (λ m. n (inr m))) (nat_eq x y) refl
  where
    by : place_in xs x ≡ None → (b : Bool) → nat_eq x y ≡ b
        → cond b (Some 0) (option_map suc (place_in xs x)) ≡ None
    by rest true e = absurd (n (inl (sym (eqb-true x y e))))
    by rest false e = ap (option_map suc) rest

pub place-middle : (xs ys : List ℕ) (x : ℕ) → ¬ (IsMember x xs) → place_in (xs ++ x ∷ ys) x ≡ Some (length xs)
place-middle [] ys x n = ap (λ b. cond b (Some 0) (option_map suc (place_in ys x))) (eq-eqb x x refl)
place-middle (y ∷ xs) ys x n = by (place-middle xs ys x (λ m. n (inr m))) (nat_eq x y) refl
  where
    by : place_in (xs ++ x ∷ ys) x ≡ Some (length xs) → (b : Bool) → nat_eq x y ≡ b
        → cond b (Some 0) (option_map suc (place_in (xs ++ x ∷ ys) x)) ≡ Some (suc (length xs))
    by rest true e = absurd (n (inl (sym (eqb-true x y e))))
    by rest false e = ap (option_map suc) rest

-- none are left
pub none-left : {X : Type 0} (xs : Vec X) → xs.len ≡ 0 → xs.items ≡ []
none-left xs e = nil_from_length xs.items (sym xs.ok.0 ∙ e)
