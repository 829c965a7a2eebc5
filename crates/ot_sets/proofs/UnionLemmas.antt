-- Unions of sets, and as the table grows.
use Rattle.std.specs.Prelude.{◌↔◌, nat_eq, slice_get, Some}
use Rattle.std.specs.Map.{lookup}
use Rattle.std.proofs.Common.{◌≡◌, ℕ, ◌<◌, Bool, true, false, cond, List, [], length}
use Rattle.std.proofs.Common.{refl, sym, subst, ◌∙◌, ◌⊎◌, inl, inr, arith, eqb-true}
use Rattle.std.proofs.lemmas.Bool.{and_parts}
use Rattle.std.proofs.lemmas.Option.{none-some, same_Some, get_or_from_slice_get, slice_get_within}
use Rattle.ot_logic.specs.Lists.{IsMember}
use Rattle.ot_logic.specs.Table.{Extends}
use Rattle.ot_logic.proofs.Members.{IsMember-left, IsMember-right, IsMember-cases}
use Rattle.ot_logic.proofs.TableLemmas.{get_or-Extends}
use Rattle.ot_sets.specs.Trees.{Tree, Empty, One, Both, members}
use Rattle.ot_sets.specs.Table.{tree_at, Has, IsUnionAt, same_pair, AreUnions}
use Rattle.ot_sets.specs.Unions.{IsSetOf}
use Rattle.ot_sets.specs.declared.table.Pair.{Pair}

-- ---- what a node has
module _ (ts : List Tree) (id : ℕ) (t : Tree) (is : slice_get ts id ≡ Some t) where
  pub tree-is : tree_at ts id ≡ t
  tree-is = get_or_from_slice_get ts id t Empty is

  pub id-within : id < length ts
  id-within = slice_get_within ts id t is

  pub has-to : (k : ℕ) → Has ts id k → IsMember k (members t)
  has-to k = subst (λ s. IsMember k (members s)) tree-is

  pub has-from : (k : ℕ) → IsMember k (members t) → Has ts id k
  has-from k = subst (λ s. IsMember k (members s)) (sym tree-is)

-- ---- as the table grows
module _ (ts us : List Tree) (x : Extends ts us) where
  pub has-later : (id : ℕ) → id < length ts → (k : ℕ) → Has ts id k → Has us id k
  has-later id h k = subst (λ s. IsMember k (members s)) (sym (get_or-Extends ts us x id Empty h))

  pub has-sooner : (id : ℕ) → id < length ts → (k : ℕ) → Has us id k → Has ts id k
  has-sooner id h k = subst (λ s. IsMember k (members s)) (get_or-Extends ts us x id Empty h)

  pub union-later : (a b id : ℕ) → a < length ts → b < length ts → IsUnionAt ts a b id → IsUnionAt us a b id
  union-later a b id ha hb u = record {
    within = omega (arith, u.within, x.longer);
    numbers = λ k. (
      λ m. elim ((u.numbers k).0 (has-sooner id u.within k m)) [
        | inl l ↦ inl (has-later a ha k l)
        | inr r ↦ inr (has-later b hb k r)
      ],
      λ e. has-later id u.within k ((u.numbers k).1 (elim e [
        | inl l ↦ inl (has-sooner a ha k l)
        | inr r ↦ inr (has-sooner b hb k r)
      ])),
    );
  }

  pub unions-later : (es : List (Pair × ℕ)) → AreUnions ts es → AreUnions us es
  unions-later es h = record {
    each = λ p id at.
        let (a, b, is) = h.each p id at in
        (omega (arith, a, x.longer), omega (arith, b, x.longer), union-later p.a p.b id a b is);
  }

-- ---- the cases of a union
module _ (ts : List Tree) where
  pub union-same : (a : ℕ) → a < length ts → IsUnionAt ts a a a
  union-same a h = record {
    within = h;
    numbers = λ k. (λ m. inl m, λ e. elim e [ inl m ↦ m | inr m ↦ m ]);
  }

  pub union-left : (a b : ℕ) → slice_get ts a ≡ Some Empty → b < length ts → IsUnionAt ts a b b
  union-left a b is h = record {
    within = h;
    numbers = λ k. (λ m. inr m, λ e. elim e [ inl m ↦ absurd (has-to ts a Empty is k m) | inr m ↦ m ]);
  }

  pub union-right : (a b : ℕ) → slice_get ts b ≡ Some Empty → a < length ts → IsUnionAt ts a b a
  union-right a b is h = record {
    within = h;
    numbers = λ k. (λ m. inl m, λ e. elim e [ inl m ↦ m | inr m ↦ absurd (has-to ts b Empty is k m) ]);
  }

-- a new node of two sets
module _ (ts us : List Tree) (x : Extends ts us) (s t id : ℕ) (hs : s < length ts) (ht : t < length ts)
    (is : slice_get us id ≡ Some (Both (tree_at ts s) (tree_at ts t))) where
  abbrev both : Tree
  both = Both (tree_at ts s) (tree_at ts t)

  pub both-to : (k : ℕ) → Has us id k → Has ts s k ⊎ Has ts t k
  both-to k m = IsMember-cases k (members (tree_at ts s)) (members (tree_at ts t)) (has-to us id both is k m)

  pub both-from : (k : ℕ) → Has ts s k ⊎ Has ts t k → Has us id k
  both-from k (inl m) =
      has-from us id both is k (IsMember-left k (members (tree_at ts s)) (members (tree_at ts t)) m)
  both-from k (inr m) =
      has-from us id both is k (IsMember-right k (members (tree_at ts s)) (members (tree_at ts t)) m)

  pub union-new : IsUnionAt us s t id
  union-new = record {
    within = id-within us id both is;
    numbers = λ k. (
      λ m. elim (both-to k m) [
        | inl l ↦ inl (has-later ts us x s hs k l)
        | inr r ↦ inr (has-later ts us x t ht k r)
      ],
      λ e. both-from k (elim e [
        | inl l ↦ inl (has-sooner ts us x s hs k l)
        | inr r ↦ inr (has-sooner ts us x t ht k r)
      ]),
    );
  }

pub union-turned : (ts : List Tree) (a b id : ℕ) → IsUnionAt ts a b id → IsUnionAt ts b a id
union-turned ts a b id u = record {
  within = u.within;
  numbers = λ k. (
    λ m. elim ((u.numbers k).0 m) [ inl l ↦ inr l | inr r ↦ inl r ],
    λ e. (u.numbers k).1 (elim e [ inl l ↦ inr l | inr r ↦ inl r ]),
  );
}

-- ---- sets of known numbers
pub set-empty : (ts : List Tree) (id : ℕ) → slice_get ts id ≡ Some Empty → IsSetOf ts id (λ k. ⊥)
set-empty ts id is = record {
  within = id-within ts id Empty is;
  numbers = λ k. (has-to ts id Empty is k, has-from ts id Empty is k);
}

pub set-one : (ts : List Tree) (id n : ℕ) → slice_get ts id ≡ Some (One n) → IsSetOf ts id (λ k. k ≡ n)
set-one ts id n is = record {
  within = id-within ts id (One n) is;
  numbers = λ k. (
    λ m. elim (has-to ts id (One n) is k m) [ inl e ↦ sym e | inr never ↦ absurd never ],
    λ e. has-from ts id (One n) is k (inl (sym e)),
  );
}

pub set-later : (ts us : List Tree) → Extends ts us → (id : ℕ) (P : ℕ → Type 0) → IsSetOf ts id P → IsSetOf us id P
set-later ts us x id P s = record {
  within = omega (arith, s.within, x.longer);
  numbers = λ k. (
    λ m. (s.numbers k).0 (has-sooner ts us x id s.within k m),
    λ p. has-later ts us x id s.within k ((s.numbers k).1 p),
  );
}

-- beside an empty set
pub set-beside : (ts us : List Tree) → Extends ts us → (a b id : ℕ) (P : ℕ → Type 0) → IsSetOf ts a P
    → IsSetOf ts b (λ k. ⊥) → IsUnionAt us a b id → IsSetOf us id P
set-beside ts us x a b id P sa sb u =
    let la = set-later ts us x a P sa in
    let lb = set-later ts us x b (λ k. ⊥) sb in
    record {
      within = u.within;
      numbers = λ k. (
        λ m. elim ((u.numbers k).0 m) [ inl l ↦ (la.numbers k).0 l | inr r ↦ absurd ((lb.numbers k).0 r) ],
        λ p. (u.numbers k).1 (inl ((la.numbers k).1 p)),
      );
    }

-- ---- half by half
-- the numbers of a set are those of its halves
abbrev pub IsHalved : List Tree → ℕ → ℕ → ℕ → Type 0
IsHalved ts a s t = (k : ℕ) → Has ts a k ↔ (Has ts s k ⊎ Has ts t k)

pub halved-is : (ts : List Tree) (a s t : ℕ) → slice_get ts a ≡ Some (Both (tree_at ts s) (tree_at ts t))
    → IsHalved ts a s t
halved-is ts a s t is k = (
  λ m. IsMember-cases k (members (tree_at ts s)) (members (tree_at ts t))
      (has-to ts a (Both (tree_at ts s) (tree_at ts t)) is k m),
  λ e. has-from ts a (Both (tree_at ts s) (tree_at ts t)) is k (elim e [
    | inl m ↦ IsMember-left k (members (tree_at ts s)) (members (tree_at ts t)) m
    | inr m ↦ IsMember-right k (members (tree_at ts s)) (members (tree_at ts t)) m
  ]),
)

pub halved-later : (ts us : List Tree) → Extends ts us → (a s t : ℕ) → a < length ts → s < length ts → t < length ts
    → IsHalved ts a s t → IsHalved us a s t
halved-later ts us x a s t ha hs ht h k = (
  λ m. elim ((h k).0 (has-sooner ts us x a ha k m)) [
    | inl l ↦ inl (has-later ts us x s hs k l)
    | inr r ↦ inr (has-later ts us x t ht k r)
  ],
  λ e. has-later ts us x a ha k ((h k).1 (elim e [
    | inl l ↦ inl (has-sooner ts us x s hs k l)
    | inr r ↦ inr (has-sooner ts us x t ht k r)
  ])),
)

pub union-halved : (ts : List Tree) (a b s t u v p q id : ℕ) → IsHalved ts a s t → IsHalved ts b u v
    → IsUnionAt ts s u p → IsUnionAt ts t v q → IsUnionAt ts p q id → IsUnionAt ts a b id
union-halved ts a b s t u v p q id ha hb firsts seconds whole = record {
  within = whole.within;
  numbers = λ k. (
    λ m. elim ((whole.numbers k).0 m) [
      | inl l ↦ elim ((firsts.numbers k).0 l) [
        | inl n ↦ inl ((ha k).1 (inl n))
        | inr n ↦ inr ((hb k).1 (inl n))
      ]
      | inr r ↦ elim ((seconds.numbers k).0 r) [
        | inl n ↦ inl ((ha k).1 (inr n))
        | inr n ↦ inr ((hb k).1 (inr n))
      ]
    ],
    λ e. (whole.numbers k).1 (elim e as (λ _. Has ts p k ⊎ Has ts q k) [
      | inl l ↦ elim ((ha k).0 l) [
        | inl n ↦ inl ((firsts.numbers k).1 (inl n))
        | inr n ↦ inr ((seconds.numbers k).1 (inl n))
      ]
      | inr r ↦ elim ((hb k).0 r) [
        | inl n ↦ inl ((firsts.numbers k).1 (inr n))
        | inr n ↦ inr ((seconds.numbers k).1 (inr n))
      ]
    ]),
  );
}

-- ---- the unions that are kept
same_pair-is : (p q : Pair) → same_pair p q ≡ true → p ≡ q
same_pair-is p q e =
    let parts = and_parts (nat_eq p.a q.a) (nat_eq p.b q.b) e in
    let left = eqb-true p.a q.a parts.0 in
    let right = eqb-true p.b q.b parts.1 in
    λ i. record { a = left i; b = right i }

pub unions-none : (ts : List Tree) (es : List (Pair × ℕ)) → es ≡ [] → AreUnions ts es
unions-none ts es e = subst (AreUnions ts) (sym e) (record { each = λ p id at. absurd (none-some id at) })

-- one union more is kept
pub unions-more : (ts : List Tree) (old new : List (Pair × ℕ)) (p : Pair) (id : ℕ) → p.a < length ts → p.b < length ts
    → IsUnionAt ts p.a p.b id → AreUnions ts old
    → ((q : Pair) → lookup (same_pair q) new ≡ cond (same_pair p q) (Some id) (lookup (same_pair q) old))
    → AreUnions ts new
unions-more ts old new p id a b union h more =
    record { each = λ q k at. known-by q k (same_pair p q) refl (sym (more q) ∙ at) }
  where
    known-by : (q : Pair) (k : ℕ) (c : Bool) → same_pair p q ≡ c
        → cond c (Some id) (lookup (same_pair q) old) ≡ Some k
        → (q.a < length ts) × (q.b < length ts) × IsUnionAt ts q.a q.b k
    known-by q k true e at =
        let is = same_Some id k at in
        subst (λ (r : Pair). (r.a < length ts) × (r.b < length ts) × IsUnionAt ts r.a r.b k) (same_pair-is p q e)
        (a, b, subst (IsUnionAt ts p.a p.b) is union)
    known-by q k false e at = h.each q k at

pub unions-put : (ts now : List Tree) → ts ≡ now → (old new : List (Pair × ℕ)) (p : Pair) (id : ℕ) → p.a < length now
    → p.b < length now → IsUnionAt now p.a p.b id → AreUnions ts old
    → ((q : Pair) → lookup (same_pair q) new ≡ cond (same_pair p q) (Some id) (lookup (same_pair q) old))
    → AreUnions ts new
unions-put ts now e old new p id a b union h more =
    unions-more ts old new p id (subst (λ us. p.a < length us) (sym e) a) (subst (λ us. p.b < length us) (sym e) b)
    (subst (λ us. IsUnionAt us p.a p.b id) (sym e) union) h more
