-- What the conditions' tests decide: each asks only which members a list has.
use Rattle.std.specs.Bool.{Decides}
use Rattle.std.specs.List.{list_all, list_any}
use Rattle.std.proofs.Common.{◌≡◌, Bool, List, [], ◌∷◌, ◌&&◌, not, refl, sym, ap, subst, inl, inr}
use Rattle.std.proofs.lemmas.Bool.Decides.{Decides-and, Decides-or, Decides-not, Decides-like, same_from_decides}
use Rattle.ot_logic.specs.Lists.{IsMember, IsPart, IsSameSet, AreDistinct}
use Rattle.ot_logic.specs.Trees.{Alphabet, Variable, Tm, Free, Con, Bound, App, Abs, Symbol, ConSymbol, OpSymbol}
use Rattle.ot_logic.specs.Hol.{IsFree, same_var}
use Rattle.ot_laws.proofs.Tests.{Tells, same_var-is}
use Rattle.ot_laws.specs.Conditions.{same_symbol, is_among, is_closed_but, are_names_of, are_distinct}

module _ {X : Type 0} (same : X → X → Bool) (is : (x y : X) → Decides (same x y) (x ≡ y)) where
  pub any-is : (x : X) (xs : List X) → Decides (list_any (same x) xs) (IsMember x xs)
  any-is x [] = (λ h. cc, λ h. absurd h)
  any-is x (y ∷ ys) = Decides-or (same x y) (list_any (same x) ys)
      (Decides-like (same x y) (λ e. sym e) (λ e. sym e) (is x y)) (any-is x ys)

  -- the same members, the same answer
  pub any-same_set : (x : X) (xs ys : List X) → IsSameSet xs ys → list_any (same x) xs ≡ list_any (same x) ys
  any-same_set x xs ys s =
      same_from_decides (list_any (same x) xs) (list_any (same x) ys) (any-is x xs)
      (Decides-like (list_any (same x) ys) (s.back x) (s.to x) (any-is x ys))

  pub part-is : (xs ys : List X) → Decides (list_all (λ x. list_any (same x) ys) xs) (IsPart xs ys)
  part-is [] ys = (λ h. λ x m. absurd m, λ h. refl)
  part-is (x ∷ xs) ys =
      Decides-like (list_any (same x) ys && list_all (λ x. list_any (same x) ys) xs)
      (λ p. λ z m. elim m [ inl e ↦ subst (λ w. IsMember w ys) e p.0 | inr i ↦ p.1 z i ])
      (λ h. (h x (inl refl), λ z i. h z (inr i)))
      (Decides-and (list_any (same x) ys) (list_all (λ x. list_any (same x) ys) xs) (any-is x ys) (part-is xs ys))

  pub part-same_set : (xs us ys vs : List X) → IsSameSet xs us → IsSameSet ys vs
      → list_all (λ x. list_any (same x) ys) xs ≡ list_all (λ x. list_any (same x) vs) us
  part-same_set xs us ys vs s t =
      same_from_decides (list_all (λ x. list_any (same x) ys) xs) (list_all (λ x. list_any (same x) vs) us)
      (part-is xs ys)
      (Decides-like (list_all (λ x. list_any (same x) vs) us) (λ p. λ x m. t.back x (p x (s.to x m)))
      (λ p. λ x m. t.to x (p x (s.back x m))) (part-is us vs))

  module _ {N : Type 0} (alphabet : Alphabet N) where
    pub are_distinct-is : (xs : List X) → Decides (are_distinct same xs) (AreDistinct xs)
    are_distinct-is [] = (λ h. tt, λ h. refl)
    are_distinct-is (x ∷ xs) = Decides-and (not (list_any (same x) xs)) (are_distinct same xs)
        (Decides-not (list_any (same x) xs) (any-is x xs)) (are_distinct-is xs)

module _ {N : Type 0} (alphabet : Alphabet N) (tells : Tells alphabet) where
  pub same_symbol-is : (a b : Symbol N) → Decides (same_symbol alphabet a b) (a ≡ b)
  same_symbol-is (ConSymbol a) (ConSymbol b) = Decides-like (alphabet.same a b) (ap ConSymbol) (λ e. cc) (tells a b)
  same_symbol-is (OpSymbol a) (OpSymbol b) = Decides-like (alphabet.same a b) (ap OpSymbol) (λ e. cc) (tells a b)
  same_symbol-is (ConSymbol a) (OpSymbol b) = (λ h. cc, λ e. cc)
  same_symbol-is (OpSymbol a) (ConSymbol b) = (λ h. cc, λ e. cc)

  pub is_among-is : (s : Symbol N) (ss : List (Symbol N)) → Decides (is_among alphabet s ss) (IsMember s ss)
  is_among-is = any-is (same_symbol alphabet) same_symbol-is

  pub is_among-same_set : (s : Symbol N) (ss ts : List (Symbol N)) → IsSameSet ss ts
      → is_among alphabet s ss ≡ is_among alphabet s ts
  is_among-same_set = any-same_set (same_symbol alphabet) same_symbol-is

  pub are_names_of-is : (ns ms : List N) → Decides (are_names_of alphabet ns ms) (IsPart ns ms)
  are_names_of-is = part-is alphabet.same tells

  pub is_closed_but-is : (vs : List (Variable N)) (t : Tm N)
      → Decides (is_closed_but alphabet vs t) ((v : Variable N) → IsFree alphabet v t → IsMember v vs)
  is_closed_but-is vs (Free w) =
      Decides-like (is_closed_but alphabet vs (Free w)) (λ m. λ v e. subst (λ x. IsMember x vs) e m) (λ h. h w refl)
      (any-is (same_var alphabet) (same_var-is alphabet tells) w vs)
  is_closed_but-is vs (Con n t) = (λ h. λ v f. absurd f, λ h. refl)
  is_closed_but-is vs (Bound k) = (λ h. λ v f. absurd f, λ h. refl)
  is_closed_but-is vs (App f x) =
      Decides-like (is_closed_but alphabet vs f && is_closed_but alphabet vs x)
      (λ p. λ v h. elim h [ inl a ↦ p.0 v a | inr b ↦ p.1 v b ]) (λ h. (λ v a. h v (inl a), λ v b. h v (inr b)))
      (Decides-and (is_closed_but alphabet vs f) (is_closed_but alphabet vs x) (is_closed_but-is vs f)
      (is_closed_but-is vs x))
  is_closed_but-is vs (Abs t b) = is_closed_but-is vs b
