-- Lists with one more at their ends.
use Rattle.std.proofs.Common.{◌≡◌, List, [], ◌∷◌, ◌++◌, map, refl, sym, ap, ◌∙◌, reverse, append_assoc, inl, inr}
use Rattle.std.proofs.lemmas.List.{reverse-append}
use Rattle.ot_logic.specs.Lists.{IsMember, AreDistinct}

module _ {X : Type 0} where
  nothing : (ys : List X) (y : X) → [] ≡ ys ++ y ∷ [] → ⊥
  nothing [] y p = cc
  nothing (z ∷ ys) y p = cc

  pub snoc-one : (xs ys : List X) (x y : X) → xs ++ x ∷ [] ≡ ys ++ y ∷ [] → (xs ≡ ys) × (x ≡ y)
  snoc-one [] [] x y p = let e : x ≡ y = cc in (refl, e)
  snoc-one [] (b ∷ ys) x y p = let e : [] ≡ ys ++ y ∷ [] = cc in absurd (nothing ys y e)
  snoc-one (a ∷ xs) [] x y p = let e : xs ++ x ∷ [] ≡ [] = cc in absurd (nothing xs x (sym e))
  snoc-one (a ∷ xs) (b ∷ ys) x y p =
      let first : a ≡ b = cc in
      let rest : xs ++ x ∷ [] ≡ ys ++ y ∷ [] = cc in
      let (s, e) = snoc-one xs ys x y rest in
      (λ i. first i ∷ s i, e)

  pub snoc-some : (xs : List X) (x : X) → xs ++ x ∷ [] ≡ [] → ⊥
  snoc-some xs x p = nothing xs x (sym p)

  pub front-distinct : (xs ys : List X) → AreDistinct (xs ++ ys) → AreDistinct xs
  front-distinct [] ys d = tt
  front-distinct (x ∷ xs) ys d = (λ m. d.0 (left x xs m), front-distinct xs ys d.1)
    where
      left : (x : X) (zs : List X) → IsMember x zs → IsMember x (zs ++ ys)
      left x (z ∷ zs) (inl e) = inl e
      left x (z ∷ zs) (inr m) = inr (left x zs m)
      left x [] m = absurd m

  -- the list after a list, its first one moved over
  pub moved : {Y : Type 0} (f : Y → X) (xs : List X) (ys : List Y) (y : Y)
      → (xs ++ f y ∷ []) ++ map f (reverse ys) ≡ xs ++ map f (reverse (ys ++ y ∷ []))
  moved f xs ys y =
      append_assoc xs (f y ∷ []) (map f (reverse ys))
      ∙ ap (λ zs. xs ++ map f zs) (sym (reverse-append ys (y ∷ [])))

  -- the same, where a list's last one is taken off
  pub taken : {Y : Type 0} (f : Y → X) (xs : List X) (items ys : List Y) (y : Y) → items ≡ ys ++ y ∷ []
      → (xs ++ f y ∷ []) ++ map f (reverse ys) ≡ xs ++ map f (reverse items)
  taken f xs items ys y e = moved f xs ys y ∙ ap (λ zs. xs ++ map f (reverse zs)) (sym e)
