-- Sets by hash: what is inserted, and how many.
use Rattle.std.specs.Bool.{Decides}
use Rattle.std.specs.List.{list_any}
use Rattle.std.proofs.Common.{◌≡◌, ◌+◌, ◌≤◌, nat_eq, Bool, true, false, List, [], ◌∷◌, ◌++◌, take, length, fold}
use Rattle.std.proofs.Common.{if◌then◌else◌, refl, sym, ap, subst, ◌∙◌, arith, inl, inr, length-append, append_assoc}
use Rattle.std.proofs.lemmas.Bool.Decides.{Decides-like, Decides-eqb, same_from_decides}
use Rattle.std.proofs.lemmas.List.{append-nil}
use Rattle.std.proofs.lemmas.Grind.{common_steps}
use Rattle.indexmap.specs.IndexSet.{insert_key}
use Rattle.ot_logic.specs.Lists.{IsMember, AreDistinct}
use Rattle.ot_logic.specs.Trees.{Alphabet}
use Rattle.ot_laws.proofs.Tests.{cases_of}
use Rattle.ot_laws.specs.Conditions.{are_distinct}
use Rattle.ot_laws.proofs.Membership.{any-is, are_distinct-is}
use Rattle.ot_logic.proofs.Members.{IsMember-cases, IsMember-left, IsMember-right}

module _ {X : Type 0} (eq : X → X → Bool) where
  -- the set after more is what it was, and then what is new
  insert-more : (ks : List X) (x : X) → (zs : List X) × (insert_key eq ks x ≡ ks ++ zs)
  insert-more ks x = by (list_any (eq x) ks)
    where
      by : (b : Bool) → (zs : List X) × ((if b then ks else ks ++ x ∷ []) ≡ ks ++ zs)
      by true = ([], sym (append-nil ks))
      by false = (x ∷ [], refl)

  all-more : (ks xs : List X) → (zs : List X) × (fold (insert_key eq) ks xs ≡ ks ++ zs)
  all-more ks [] = ([], sym (append-nil ks))
  all-more ks (x ∷ xs) =
      let (us, e) = insert-more ks x in
      let (vs, f) = all-more (insert_key eq ks x) xs in
      (us ++ vs, f ∙ ap (λ ls. ls ++ vs) e ∙ append_assoc ks us vs)

  -- what stood first stays first
  pub all-kept : (ks xs : List X) → take (length ks) (fold (insert_key eq) ks xs) ≡ ks
  all-kept ks xs = let (zs, e) = all-more ks xs in ap (take (length ks)) e ∙ grind (arith, common_steps)

  -- a set is no longer than what was inserted
  insert-length : (ks : List X) (x : X) → length (insert_key eq ks x) ≤ length ks + 1
  insert-length ks x = by (list_any (eq x) ks)
    where
      by : (b : Bool) → length (if b then ks else ks ++ x ∷ []) ≤ length ks + 1
      by true = omega arith
      by false = omega (arith, length-append ks (x ∷ []))

  all-length : (ks xs : List X) → length (fold (insert_key eq) ks xs) ≤ length ks + length xs
  all-length ks [] = omega arith
  all-length ks (x ∷ xs) = omega (arith, all-length (insert_key eq ks x) xs, insert-length ks x)

module _ {X : Type 0} (eq : X → X → Bool) (is : (x y : X) → Decides (eq x y) (x ≡ y)) where
  -- nothing stands twice, and nothing is in the set
  abbrev AreNew : List X → List X → Type 0
  AreNew ks xs = AreDistinct xs × ((x : X) → IsMember x xs → ¬ (IsMember x ks))

  module _ (ks : List X) (x : X) (xs : List X) where
    -- each of x and xs was added to ks just where nothing stands twice, the set being ls after x
    abbrev Added : List X → Type 0
    Added ls = Decides (nat_eq (length (fold (insert_key eq) ls xs)) (length ks + length (x ∷ xs)))
        (AreNew ks (x ∷ xs))

    new-to : ¬ (IsMember x ks) → AreNew (ks ++ x ∷ []) xs → AreNew ks (x ∷ xs)
    new-to m p = (
      (λ j. p.1 x j (IsMember-right x ks (x ∷ []) (inl refl)), p.0),
      λ z j. elim j [
        | inl e ↦ subst (λ w. ¬ (IsMember w ks)) e m
        | inr i ↦ λ k. p.1 z i (IsMember-left z ks (x ∷ []) k)
      ],
    )

    new-back : AreNew ks (x ∷ xs) → AreNew (ks ++ x ∷ []) xs
    new-back p = (
      p.0.1,
      λ z i k. elim (IsMember-cases z ks (x ∷ []) k) [
        | inl a ↦ p.1 z (inr i) a
        | inr b ↦ elim b [ inl e ↦ p.0.0 (subst (λ w. IsMember w xs) (sym e) i) | inr never ↦ absurd never ]
      ],
    )

  -- each was added just where nothing stands twice
  all-new : (ks xs : List X) → Decides (nat_eq (length (fold (insert_key eq) ks xs)) (length ks + length xs))
      (AreNew ks xs)
  all-new ks [] = (λ h. (tt, λ x m. absurd m), λ h. (Decides-eqb (length ks) (length ks + 0)).1 (omega arith))
  all-new ks (x ∷ xs) = elim (cases_of (list_any (eq x) ks) (any-is eq is x ks))
      [ inl p ↦ old p.0 p.1 | inr p ↦ new p.0 p.1 (all-new (ks ++ x ∷ []) xs) ]
    where
      by : (b : Bool) → list_any (eq x) ks ≡ b → Added ks x xs (if b then ks else ks ++ x ∷ [])
          → Added ks x xs (insert_key eq ks x)
      by b e h = subst (λ c. Added ks x xs (if c then ks else ks ++ x ∷ [])) (sym e) h

      short : nat_eq (length (fold (insert_key eq) ks xs)) (length ks + length (x ∷ xs)) ≡ true → ⊥
      short h =
          let same = (Decides-eqb (length (fold (insert_key eq) ks xs)) (length ks + length (x ∷ xs))).0 h in
          let less = all-length eq ks xs in
          omega arith

      old : list_any (eq x) ks ≡ true → IsMember x ks → Added ks x xs (insert_key eq ks x)
      old e m = by true e (λ h. absurd (short h), λ p. absurd (p.1 x (inl refl) m))

      longer : length (ks ++ x ∷ []) + length xs ≡ length ks + length (x ∷ xs)
      longer = omega (arith, length-append ks (x ∷ []))

      new : list_any (eq x) ks ≡ false → ¬ (IsMember x ks)
          → Decides (nat_eq (length (fold (insert_key eq) (ks ++ x ∷ []) xs)) (length (ks ++ x ∷ []) + length xs))
          (AreNew (ks ++ x ∷ []) xs) → Added ks x xs (insert_key eq ks x)
      new e m rest =
          by false e
          (subst (λ n. Decides (nat_eq (length (fold (insert_key eq) (ks ++ x ∷ []) xs)) n) (AreNew ks (x ∷ xs)))
          longer
          (Decides-like (nat_eq (length (fold (insert_key eq) (ks ++ x ∷ []) xs)) (length (ks ++ x ∷ []) + length xs))
          (new-to ks x xs m) (new-back ks x xs) rest))

  pub distinct-count : {N : Type 0} (alphabet : Alphabet N) (xs : List X)
      → nat_eq (length (fold (insert_key eq) [] xs)) (length xs) ≡ are_distinct eq xs
  distinct-count alphabet xs =
      same_from_decides (nat_eq (length (fold (insert_key eq) [] xs)) (length xs)) (are_distinct eq xs)
      (subst (λ n. Decides (nat_eq (length (fold (insert_key eq) [] xs)) n) (AreDistinct xs)) count
      (Decides-like (nat_eq (length (fold (insert_key eq) [] xs)) (0 + length xs)) (λ p. p.0)
      (λ d. (d, λ x m never. never)) (all-new [] xs)))
      (are_distinct-is eq is alphabet xs)
    where
      count : 0 + length xs ≡ length xs
      count = omega arith
