-- The free variables of a class, as keys.
use Rattle.std.specs.Prelude.{nat_eq}
use Rattle.std.specs.List.{filter}
use Rattle.std.proofs.Common.{◌≡◌, ◌↔◌, ℕ, Bool, true, false, cond, true≢false, List, [], ◌∷◌, ◌++◌, map, reverse, length}
use Rattle.std.proofs.Common.{refl, sym, ap, subst, ◌∙◌, inl, inr, ◌⊎◌, eqb-true, eq-eqb}
use Rattle.std.proofs.lemmas.List.{reverse-reverse, reverse-append}
use Rattle.ot_logic.specs.Lists.{IsMember, AreDistinct}
use Rattle.ot_logic.specs.Trees.{Variable}
use Rattle.ot_logic.proofs.Members.{IsMember-map, IsMember-map_back, IsMember-left, IsMember-right, IsMember-cases}
use Rattle.ot_laws.proofs.Sets.{distinct-append}
use Rattle.ot_shape.proofs.Frees.{filter-from, filter-to, filter-distinct}
use Rattle.ot_lists.specs.Variables.{variable_by, variable_of}
use Rattle.ot_lists.specs.declared.list.Key.{Key}
use Rattle.ot_lists.proofs.Lifting.{key-one}

-- ---- a list from its end
module _ {X : Type 0} where
  reversed : (x : X) (xs : List X) → reverse (x ∷ xs) ≡ reverse xs ++ x ∷ []
  reversed x xs = reverse-append (x ∷ []) xs

  pub member-reverse : (x : X) (xs : List X) → IsMember x xs → IsMember x (reverse xs)
  member-reverse x [] m = m
  member-reverse x (y ∷ xs) (inl e) =
      subst (IsMember x) (sym (reversed y xs)) (IsMember-right x (reverse xs) (y ∷ []) (inl e))
  member-reverse x (y ∷ xs) (inr m) =
      subst (IsMember x) (sym (reversed y xs)) (IsMember-left x (reverse xs) (y ∷ []) (member-reverse x xs m))

  pub reverse-member : (x : X) (xs : List X) → IsMember x (reverse xs) → IsMember x xs
  reverse-member x xs m = subst (IsMember x) (reverse-reverse xs) (member-reverse x (reverse xs) m)

  pub distinct-reverse : (xs : List X) → AreDistinct xs → AreDistinct (reverse xs)
  distinct-reverse [] d = tt
  distinct-reverse (x ∷ xs) d =
      subst AreDistinct (sym (reversed x xs))
      (distinct-append (reverse xs) (x ∷ []) (distinct-reverse xs d.1) (λ m. m, tt)
      (λ y m n. elim n [
        | inl e ↦ d.0 (reverse-member x xs (subst (λ z. IsMember z (reverse xs)) (sym e) m))
        | inr i ↦ i
      ]))

-- items of a list whose images are distinct
distinct-from_map : {X Y : Type 0} (f : X → Y) (xs : List X) → AreDistinct (map f xs) → AreDistinct xs
distinct-from_map f [] d = tt
distinct-from_map f (x ∷ xs) d = (λ m. d.0 (IsMember-map f x xs m), distinct-from_map f xs d.1)

-- ---- the keys of a list of variables, the last one first
module _ (keys : List Key) (vs : List (Variable ℕ)) (are : map variable_of (reverse keys) ≡ vs) where
  pub keys-free : (v : Key) → IsMember v keys ↔ IsMember (variable_of v) vs
  keys-free v = (to, from)
    where
      to : IsMember v keys → IsMember (variable_of v) vs
      to m = subst (IsMember (variable_of v)) are (IsMember-map variable_of v (reverse keys) (member-reverse v keys m))

      from : IsMember (variable_of v) vs → IsMember v keys
      from m =
          let (k, i, e) = IsMember-map_back variable_of (variable_of v) (reverse keys)
          (subst (IsMember (variable_of v)) (sym are) m) in
          reverse-member v keys (subst (λ k. IsMember k (reverse keys)) (key-one k v e) i)

  pub keys-once : AreDistinct vs → AreDistinct keys
  keys-once d =
      subst AreDistinct (reverse-reverse keys)
      (distinct-reverse (reverse keys) (distinct-from_map variable_of (reverse keys) (subst AreDistinct (sym are) d)))

-- ---- the types of the keys that have a name
distinct-map_on : {X Y : Type 0} (f : X → Y) (xs : List X)
    → ((x y : X) → IsMember x xs → IsMember y xs → f x ≡ f y → x ≡ y) → AreDistinct xs → AreDistinct (map f xs)
distinct-map_on f [] one d = tt
distinct-map_on f (x ∷ xs) one d = (
  λ m.
      let (y, n, e) = IsMember-map_back f (f x) xs m in
      d.0 (subst (λ z. IsMember z xs) (one y x (inr n) (inl refl) e) n),
  distinct-map_on f xs (λ a b m n. one a b (inr m) (inr n)) d.1,
)

module _ (name : ℕ) (keys : List Key) where
  abbrev named : Key → Bool
  named k = nat_eq k.name name

  pub types-free : (t : ℕ) → IsMember t (map (λ (k : Key). k.ty) (filter named keys))
      ↔ IsMember (record { name = name; ty = t }) keys
  types-free t = (to, from)
    where
      to : IsMember t (map (λ (k : Key). k.ty) (filter named keys)) → IsMember (record { name = name; ty = t }) keys
      to m =
          let (k, i, e) = IsMember-map_back (λ (k : Key). k.ty) t (filter named keys) m in
          let (j, test) = filter-from named k keys i in
          let here = eqb-true k.name name test in
          let same : k ≡ record { name = name; ty = t } = λ i. record { name = here i; ty = e i } in
          subst (λ k. IsMember k keys) same j

      from : IsMember (record { name = name; ty = t }) keys → IsMember t (map (λ (k : Key). k.ty) (filter named keys))
      from m =
          let k : Key = record { name = name; ty = t } in
          IsMember-map (λ (k : Key). k.ty) k (filter named keys) (filter-to named k keys m (eq-eqb name name refl))

  pub types-once : AreDistinct keys → AreDistinct (map (λ (k : Key). k.ty) (filter named keys))
  types-once d =
      distinct-map_on (λ (k : Key). k.ty) (filter named keys)
      (λ k j m n e.
      let here = eqb-true k.name name (filter-from named k keys m).1 in
      let there = eqb-true j.name name (filter-from named j keys n).1 in
      let names = here ∙ sym there in
      λ i. record { name = names i; ty = e i })
      (filter-distinct named keys d)
