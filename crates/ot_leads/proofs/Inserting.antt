-- Numbers that are put into a set one after another, in the order in which they came.
use Rattle.std.specs.Prelude.{nat_eq}
use Rattle.std.specs.List.{list_any, IsDistinct}
use Rattle.std.proofs.Common.{◌≡◌, ℕ, zero, suc, ◌+◌, ◌<◌, ◌≤◌, ◌⊎◌, inl, inr, Bool, true, false}
use Rattle.std.proofs.Common.{List, [], ◌∷◌, ◌++◌, length, take}
use Rattle.std.proofs.Common.{refl, sym, ap, subst, ◌∙◌, get_or, eqb-true, eq-eqb, true≢false, arith, if◌then◌else◌}
use Rattle.std.proofs.lemmas.Bool.Decides.{eqb_tells}
use Rattle.std.proofs.lemmas.Map.Keys.{IsDistinct-tail, apart_from_distinct}
use Rattle.std.proofs.lemmas.Option.{slice_get_within, get_or_from_slice_get}
use Rattle.indexmap.specs.IndexSet.{insert_key}
use Rattle.ot_logic.specs.Lists.{IsMember, AreDistinct}
use Rattle.ot_logic.proofs.Members.{IsMember-left, IsMember-last, IsMember-push, IsMember-place, member_from_any}
use Rattle.ot_logic.proofs.Members.{distinct-length}
use Rattle.ot_logic.proofs.TableLemmas.{Extends-refl, Extends-trans, Extends-append}
use Rattle.ot_sets.specs.Trees.{Tree}
use Rattle.ot_sets.specs.Unions.{HasAdded}
use Rattle.ot_trace.proofs.WalkLemmas.{taken}
use Rattle.ot_leads.specs.Closing.{ArePut, HasNoted}

pub put-none : (xs before : List ℕ) → ArePut before (take 0 xs) before
put-none [] before = record {
  kept = Extends-refl before;
  all = λ p. (λ m. inl m, λ e. elim e [ inl m ↦ m | inr m ↦ absurd m ]);
}
put-none (x ∷ xs) before = record {
  kept = Extends-refl before;
  all = λ p. (λ m. inl m, λ e. elim e [ inl m ↦ m | inr m ↦ absurd m ]);
}

-- one more
one-put : (ks : List ℕ) (x : ℕ) → ArePut ks (x ∷ []) (insert_key nat_eq ks x)
one-put ks x = by (list_any (nat_eq x) ks) refl
  where
    by : (b : Bool) → list_any (nat_eq x) ks ≡ b → ArePut ks (x ∷ []) (if b then ks else ks ++ x ∷ [])
    by true e = record {
      kept = Extends-refl ks;
      all = λ p. (
        λ m. inl m,
        λ w. elim w [
          | inl m ↦ m
          | inr m ↦ elim m [
            | inl q ↦
                let found = member_from_any (nat_eq x) ks e in
                subst (λ z. IsMember z ks) (sym (eqb-true x found.0 found.1) ∙ q) found.2
            | inr never ↦ absurd never
          ]
        ],
      );
    }
    by false e = record {
      kept = Extends-append ks (x ∷ []);
      all = λ p. (
        λ m. elim (IsMember-push p ks x m) [ inl a ↦ inl a | inr q ↦ inr (inl q) ],
        λ w. elim w [
          | inl m ↦ IsMember-left p ks (x ∷ []) m
          | inr m ↦ elim m [
            | inl q ↦ subst (λ z. IsMember z (ks ++ x ∷ [])) q (IsMember-last x ks)
            | inr never ↦ absurd never
          ]
        ],
      );
    }

pub put-more : (xs : List ℕ) (k x : ℕ) (before mid after : List ℕ) → k < length xs → x ≡ get_or xs k x
    → ArePut before (take k xs) mid → after ≡ insert_key nat_eq mid x → ArePut before (take (k + 1) xs) after
put-more xs k x before mid after within item h e =
    let one = subst (ArePut mid (x ∷ [])) (sym e) (one-put mid x) in
    let more = taken xs k x within item in
    record {
      kept = Extends-trans h.kept one.kept;
      all = λ p. (
        λ m. elim ((one.all p).0 m) [
          | inl a ↦ elim ((h.all p).0 a) [
            | inl b ↦ inl b
            | inr b ↦ inr (subst (IsMember p) (sym more) (IsMember-left p (take k xs) (x ∷ []) b))
          ]
          | inr a ↦ elim a [
            | inl q ↦ inr (subst (IsMember p) (sym more)
                (subst (λ z. IsMember z (take k xs ++ x ∷ [])) q (IsMember-last x (take k xs))))
            | inr never ↦ absurd never
          ]
        ],
        λ w. (one.all p).1 (elim w as (λ _. IsMember p mid ⊎ IsMember p (x ∷ [])) [
          | inl b ↦ inl ((h.all p).1 (inl b))
          | inr m ↦ elim (IsMember-push p (take k xs) x (subst (IsMember p) more m)) [
            | inl a ↦ inl ((h.all p).1 (inr a))
            | inr q ↦ inr (inl q)
          ]
        ]),
      );
    }

-- what a set has more than another is noted
pub noted-added : (ts : List Tree) (known id : ℕ) (none added before after : List ℕ) → none ≡ []
    → HasAdded ts known id none added → ArePut before added after → HasNoted ts known id before after
noted-added ts known id none added before after empty h put = record {
  places = put.kept;
  noted = λ p m. elim (h.added p m) [ inl a ↦ inl a | inr a ↦ inr ((put.all p).1 (inr a)) ];
  only = λ p m. elim ((put.all p).0 m) [
    | inl a ↦ inl a
    | inr a ↦ elim (h.only p a) [ inl never ↦ absurd (subst (IsMember p) empty never) | inr b ↦ inr b ]
  ];
}

-- ---- numbers that differ, each below a bound, are no more than the bound
abbrev numbers_below : ℕ → List ℕ
numbers_below zero = []
numbers_below (suc n) = n ∷ numbers_below n

numbers_below-length : (n : ℕ) → length (numbers_below n) ≡ n
numbers_below-length zero = refl
numbers_below-length (suc n) = ap suc (numbers_below-length n)

numbers_below-all : (n p : ℕ) → p < n → IsMember p (numbers_below n)
numbers_below-all zero p h = absurd (omega (arith, h))
numbers_below-all (suc n) p h = elim (eqb_tells p n) [
  | inl e ↦ inl (sym e.1)
  | inr e ↦ inr (numbers_below-all n p (let ne = e.1 in omega (arith, h, ne)))
]

distinct-members : (ks : List ℕ) → IsDistinct nat_eq ks → AreDistinct ks
distinct-members [] d = tt
distinct-members (k ∷ ks) d = (
  λ m.
      let at = IsMember-place k ks m in
      let within = slice_get_within ks at.0 k at.1 in
      let differ = apart_from_distinct nat_eq (k ∷ ks) 0 (suc at.0) k d (omega arith) (omega (arith, within)) in
      let same = eq-eqb k (get_or ks at.0 k) (sym (get_or_from_slice_get ks at.0 k k at.1)) in
      true≢false (sym same ∙ differ),
  distinct-members ks (IsDistinct-tail nat_eq k ks d),
)

pub no-more : (ks : List ℕ) (n : ℕ) → IsDistinct nat_eq ks → ((p : ℕ) → IsMember p ks → p < n) → length ks ≤ n
no-more ks n d below =
    let few = distinct-length ks (numbers_below n) (distinct-members ks d) (λ p m. numbers_below-all n p (below p m)) in
    let long = numbers_below-length n in
    omega (arith, few, long)
