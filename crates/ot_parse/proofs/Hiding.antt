-- The hidden symbols among the first symbols of a run.
use Rattle.std.specs.Prelude.{◌≡◌, ℕ, suc, ◌+◌, ◌<◌, ◌≤◌, Bool, true, false}
use Rattle.std.specs.Prelude.{cond, List, [], ◌∷◌, ◌++◌, map, length, take}
use Rattle.std.specs.List.{filter}
use Rattle.std.proofs.Common.{refl, sym, ◌∙◌, ap, subst, inl, inr, arith, get_or}
use Rattle.std.proofs.Math.Seq.{take-suc}
use Rattle.std.proofs.lemmas.List.{length-map, get_or-map, take_all}
use Rattle.ot_logic.specs.Lists.{IsMember}
use Rattle.ot_logic.specs.Names.{Name, IsName}
use Rattle.ot_logic.specs.Trees.{Symbol}
use Rattle.ot_parse.specs.Symbols.{with_passing, AreNames}

filter-push : (p : Symbol Name → Bool) (xs : List (Symbol Name)) (x : Symbol Name) → filter p (xs ++ x ∷ [])
    ≡ with_passing p x (filter p xs)
filter-push p [] x = go (p x) where
  go : (e : Bool) → cond e (x ∷ []) [] ≡ cond e ([] ++ x ∷ []) []
  go true = refl
  go false = refl
filter-push p (y ∷ xs) x = ap (λ zs. cond (p y) (y ∷ zs) zs) (filter-push p xs x) ∙ go (p y) (p x) where
  go : (e d : Bool) → cond e (y ∷ cond d (filter p xs ++ x ∷ []) (filter p xs))
      (cond d (filter p xs ++ x ∷ []) (filter p xs)) ≡ cond d (cond e (y ∷ filter p xs) (filter p xs) ++ x ∷ [])
      (cond e (y ∷ filter p xs) (filter p xs))
  go true true = refl
  go true false = refl
  go false true = refl
  go false false = refl

module _ {X : Type 0} (f : X → Symbol Name) (p : Symbol Name → Bool) where
  pub one-more : (xs : List X) (hs gs : List (Symbol Name)) (i : ℕ) (x : X) → hs ≡ filter p (take i (map f xs))
      → i < length xs → x ≡ get_or xs i x → gs ≡ with_passing p (f x) hs → gs ≡ filter p (take (i + 1) (map f xs))
  one-more xs hs gs i x e h q r =
      let k : i + 1 ≡ suc i = omega arith in
      let n = length-map xs f in
      let within : i < length (map f xs) = omega (arith, n, h) in
      r ∙ ap (with_passing p (f x)) e ∙ sym (filter-push p (take i (map f xs)) (f x))
      ∙ ap (λ y. filter p (take i (map f xs) ++ y ∷ [])) (ap f q ∙ sym (get_or-map f xs i x (f x) h))
      ∙ ap (filter p) (sym (take-suc (map f xs) i (f x) within)) ∙ ap (λ m. filter p (take m (map f xs))) (sym k)

  pub all : (xs : List X) (hs : List (Symbol Name)) (i : ℕ) → hs ≡ filter p (take i (map f xs)) → length xs ≤ i
      → hs ≡ filter p (map f xs)
  all xs hs i e h = e ∙ ap (filter p) (take_all i (map f xs) (let n = length-map xs f in omega (arith, n, h)))

-- ---- names
pub named-more : (ns : List Name) (i : ℕ) (n : Name) → AreNames (take i ns) → i < length ns → n ≡ get_or ns i n
    → IsName n → AreNames (take (i + 1) ns)
named-more ns i n h k e w m g =
    let s : i + 1 ≡ suc i = omega arith in
    let whole : take (i + 1) ns ≡ take i ns ++ n ∷ [] = ap (λ j. take j ns) s ∙ take-suc ns i n k
    ∙ ap (λ z. take i ns ++ z ∷ []) (sym e) in
    split (take i ns) h (subst (IsMember m) whole g)
  where
    split : (xs : List Name) → AreNames xs → IsMember m (xs ++ n ∷ []) → IsName m
    split [] h g = elim g [ inl p ↦ subst IsName p w | inr q ↦ absurd q ]
    split (x ∷ xs) h g = elim g [ inl p ↦ h m (inl p) | inr q ↦ split xs (λ k z. h k (inr z)) q ]

pub named-all : (ns : List Name) (i : ℕ) → AreNames (take i ns) → length ns ≤ i → AreNames ns
named-all ns i h k = subst AreNames (take_all i ns k) h
