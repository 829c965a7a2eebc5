-- What comes to a list of numbers.
use Rattle.std.specs.Prelude.{slice_get, Some}
use Rattle.std.proofs.Common.{◌≡◌, ℕ, List, [], ◌∷◌, ◌++◌, ◌⊎◌, inl, inr, sym, subst}
use Rattle.ot_logic.specs.Lists.{IsMember}
use Rattle.ot_logic.proofs.Members.{IsMember-left, IsMember-last, IsMember-push}
use Rattle.ot_sets.specs.Trees.{Tree, Empty, One, Both}
use Rattle.ot_sets.specs.Table.{tree_at, Has}
use Rattle.ot_sets.specs.Unions.{Adds, HasAdded}
use Rattle.ot_sets.proofs.UnionLemmas.{has-to, has-from, halved-is}

pub adds-none : (A B : ℕ → Type 0) (out : List ℕ) → ((k : ℕ) → B k → A k) → Adds A B out out
adds-none A B out within = record { kept = λ k m. m; added = λ k b. inl (within k b); only = λ k m. inl m }

pub adds-one : (A B : ℕ → Type 0) (n : ℕ) (before after : List ℕ) → after ≡ before ++ n ∷ [] → ((k : ℕ) → B k → k ≡ n)
    → B n → Adds A B before after
adds-one A B n before after is one here = subst (Adds A B before) (sym is) (record {
  kept = λ k m. IsMember-left k before (n ∷ []) m;
  added = λ k b. inr (subst (λ z. IsMember z (before ++ n ∷ [])) (sym (one k b)) (IsMember-last n before));
  only = λ k m. elim (IsMember-push k before n m) [ inl a ↦ inl a | inr e ↦ inr (subst B e here) ];
})

pub adds-as : (A B C : ℕ → Type 0) (before after : List ℕ) → ((k : ℕ) → B k → C k) → ((k : ℕ) → C k → B k)
    → Adds A B before after → Adds A C before after
adds-as A B C before after to back h = record {
  kept = h.kept;
  added = λ k c. h.added k (back k c);
  only = λ k m. elim (h.only k m) [ inl a ↦ inl a | inr b ↦ inr (to k b) ];
}

pub adds-then : (A B C D E : ℕ → Type 0) (xs ys zs : List ℕ) → ((k : ℕ) → A k → E k) → ((k : ℕ) → C k → E k)
    → Adds A B xs ys → Adds C D ys zs → Adds E (λ k. B k ⊎ D k) xs zs
adds-then A B C D E xs ys zs a c g h = record {
  kept = λ k m. h.kept k (g.kept k m);
  added = λ k n. elim n [
    | inl b ↦ elim (g.added k b) [ inl o ↦ inl (a k o) | inr m ↦ inr (h.kept k m) ]
    | inr d ↦ elim (h.added k d) [ inl o ↦ inl (c k o) | inr m ↦ inr m ]
  ];
  only = λ k m. elim (h.only k m) [
    | inl y ↦ elim (g.only k y) [ inl x ↦ inl x | inr b ↦ inr (inl b) ]
    | inr d ↦ inr (inr d)
  ];
}

-- ---- by the node of a set
module _ (ts : List Tree) (known set : ℕ) where
  pub added-empty : (out : List ℕ) → slice_get ts set ≡ Some Empty → HasAdded ts known set out out
  added-empty out is = adds-none (Has ts known) (Has ts set) out (λ k m. absurd (has-to ts set Empty is k m))

  pub added-one : (n : ℕ) (before after : List ℕ) → slice_get ts set ≡ Some (One n) → after ≡ before ++ n ∷ []
      → HasAdded ts known set before after
  added-one n before after is after_is =
      adds-one (Has ts known) (Has ts set) n before after after_is
      (λ k m. elim (has-to ts set (One n) is k m) [ inl e ↦ sym e | inr never ↦ absurd never ])
      (has-from ts set (One n) is n (inl (λ i. n)))

  pub added-halves : (s t : ℕ) (before after : List ℕ) → slice_get ts set ≡ Some (Both (tree_at ts s) (tree_at ts t))
      → Adds (Has ts known) (λ k. Has ts s k ⊎ Has ts t k) before after → HasAdded ts known set before after
  added-halves s t before after is h =
      let halves = halved-is ts set s t is in
      adds-as (Has ts known) (λ k. Has ts s k ⊎ Has ts t k) (Has ts set) before after (λ k m. (halves k).1 m)
      (λ k m. (halves k).0 m) h
