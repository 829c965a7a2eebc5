-- Lists as sets: members, and lists without repetition.
use Rattle.std.specs.List.{AllByRecursion}
use Rattle.std.proofs.Common.{List, [], ◌∷◌, ◌++◌, refl, subst, inl, inr}
use Rattle.ot_logic.specs.Lists.{IsMember, IsPart, IsSameSet, AreDistinct}
use Rattle.ot_logic.proofs.Members.{IsMember-cases, IsMember-left, IsMember-right}

module _ {X : Type 0} where
  pub part-append : (xs ys zs : List X) → IsPart xs zs → IsPart ys zs → IsPart (xs ++ ys) zs
  part-append xs ys zs p q x h = elim (IsMember-cases x xs ys h) [ inl a ↦ p x a | inr b ↦ q x b ]

  pub same_set-self : (xs : List X) → IsSameSet xs xs
  same_set-self xs = record { to = λ x h. h; back = λ x h. h }

  pub same_set-both_ways : {xs ys : List X} → IsSameSet xs ys → IsSameSet ys xs
  same_set-both_ways s = record { to = s.back; back = s.to }

  pub same_set-then : {xs ys zs : List X} → IsSameSet xs ys → IsSameSet ys zs → IsSameSet xs zs
  same_set-then s t = record { to = λ x h. t.to x (s.to x h); back = λ x h. s.back x (t.back x h) }

  pub same_set-append : {xs ys us vs : List X} → IsSameSet xs us → IsSameSet ys vs → IsSameSet (xs ++ ys) (us ++ vs)
  same_set-append {xs} {ys} {us} {vs} s t = record {
    to = part-append xs ys (us ++ vs) (λ x i. IsMember-left x us vs (s.to x i))
        (λ x i. IsMember-right x us vs (t.to x i));
    back = part-append us vs (xs ++ ys) (λ x i. IsMember-left x xs ys (s.back x i))
        (λ x i. IsMember-right x xs ys (t.back x i));
  }

  pub same_set-swap : (xs ys : List X) → IsSameSet (ys ++ xs) (xs ++ ys)
  same_set-swap xs ys = record {
    to = part-append ys xs (xs ++ ys) (λ x i. IsMember-right x xs ys i) (λ x i. IsMember-left x xs ys i);
    back = part-append xs ys (ys ++ xs) (λ x i. IsMember-right x ys xs i) (λ x i. IsMember-left x ys xs i);
  }

  -- what holds of each element holds of each member
  pub all-member : (P : X → Type 0) (xs : List X) → AllByRecursion P xs → (x : X) → IsMember x xs → P x
  all-member P [] h x i = absurd i
  all-member P (y ∷ xs) h x (inl e) = subst P e h.0
  all-member P (y ∷ xs) h x (inr i) = all-member P xs h.1 x i

  pub all-from_members : (P : X → Type 0) (xs : List X) → ((x : X) → IsMember x xs → P x) → AllByRecursion P xs
  all-from_members P [] h = tt
  all-from_members P (y ∷ xs) h = (h y (inl refl), all-from_members P xs (λ x i. h x (inr i)))

  pub distinct-append : (xs ys : List X) → AreDistinct xs → AreDistinct ys
      → ((x : X) → IsMember x xs → ¬ (IsMember x ys)) → AreDistinct (xs ++ ys)
  distinct-append [] ys d e apart = e
  distinct-append (x ∷ xs) ys d e apart = (
    λ i. elim (IsMember-cases x xs ys i) [ inl j ↦ d.0 j | inr j ↦ apart x (inl refl) j ],
    distinct-append xs ys
        d.1 e (λ y i. apart y (inr i)),
  )
