-- Columns: what comes to the sets of steps.
use Rattle.std.specs.Prelude.{◌↔◌, slice_index}
use Rattle.std.proofs.Common.{◌≡◌, ◌≢◌, ℕ, ◌+◌, ◌<◌, ◌⊎◌, inl, inr, List, [], ◌∷◌, ◌++◌}
use Rattle.std.proofs.Common.{length, take, set}
use Rattle.std.proofs.Common.{sym, ap, subst, ◌∙◌, arith, get_or, get_or-set_same, get_or-set_other}
use Rattle.std.proofs.lemmas.Bool.Decides.{eqb_tells}
use Rattle.std.proofs.lemmas.List.{length-set, get_or_default}
use Rattle.std.specs.List.{All}
use Rattle.ot_logic.specs.Lists.{IsMember}
use Rattle.ot_logic.specs.Table.{Extends}
use Rattle.ot_logic.proofs.Members.{IsMember-last, IsMember-left, IsMember-push}
use Rattle.ot_logic.proofs.TableLemmas.{Extends-trans}
use Rattle.ot_trace.proofs.WalkLemmas.{taken}
use Rattle.ot_sets.specs.Table.{Has, IsUnionAt}
use Rattle.ot_sets.specs.Trees.{Tree}
use Rattle.ot_sets.specs.Unions.{HasAdded, IsSetOf}
use Rattle.ot_sets.proofs.UnionLemmas.{has-later, has-sooner, set-later}
use Rattle.ot_leads.specs.Columns.{HasPlace, IsColumn, Gains}
use Rattle.ot_leads.specs.declared.column.Column.{Column}

module _ (n : ℕ) where
  pub gains-none : (c : Column) → IsColumn n c → (A : ℕ → ℕ → Type 0) → ((i p : ℕ) → A i p → ⊥) → Gains n c c A
  gains-none c col A never = record {
    column = col;
    leads = λ i p h. (λ m. inl m, λ e. elim e [ inl m ↦ m | inr a ↦ absurd (never i p a) ]);
  }

  pub gains-as : (c d : Column) (A B : ℕ → ℕ → Type 0) → ((i p : ℕ) → i < n → A i p → B i p)
      → ((i p : ℕ) → i < n → B i p → A i p) → Gains n c d A → Gains n c d B
  gains-as c d A B to back g = record {
    column = g.column;
    leads = λ i p h. (
      λ m. elim ((g.leads i p h).0 m) [ inl l ↦ inl l | inr a ↦ inr (to i p h a) ],
      λ e. (g.leads i p h).1 (elim e [ inl l ↦ inl l | inr b ↦ inr (back i p h b) ]),
    );
  }

  pub gains-then : (c d e : Column) (A B : ℕ → ℕ → Type 0) → Gains n c d A → Gains n d e B
      → Gains n c e (λ i p. A i p ⊎ B i p)
  gains-then c d e A B g k = record {
    column = k.column;
    leads = λ i p h. (
      λ m. elim ((k.leads i p h).0 m) [
        | inl l ↦ elim ((g.leads i p h).0 l) [ inl o ↦ inl o | inr a ↦ inr (inl a) ]
        | inr b ↦ inr (inr b)
      ],
      λ z. (k.leads i p h).1 (elim z as (λ _. HasPlace d i p ⊎ B i p) [
        | inl o ↦ inl ((g.leads i p h).1 (inl o))
        | inr ab ↦ elim ab [ inl a ↦ inl ((g.leads i p h).1 (inr a)) | inr b ↦ inr b ]
      ]),
    );
  }

-- one set is written
module _ (n : ℕ) (c d : Column) (col : IsColumn n c) (x : Extends c.sets d.sets) (same : d.empty ≡ c.empty)
    (id : ℕ) (h : id < n) (r : ℕ) (hr : r < length d.sets) (New : ℕ → Type 0)
    (is : (p : ℕ) → Has d.sets r p ↔ (HasPlace c id p ⊎ New p)) (w : d.of.items ≡ set c.of.items id r) where
  here : slice_index d.of.items id ≡ r
  here =
      let k = col.count in
      ap (λ l. slice_index l id) w ∙ get_or-set_same c.of.items id r 0 (omega (arith, h, k))

  there : (i : ℕ) → i ≢ id → slice_index d.of.items i ≡ slice_index c.of.items i
  there i ne = ap (λ l. slice_index l i) w ∙ get_or-set_other c.of.items id i r 0 ne

  inside : (i : ℕ) → i < n → slice_index d.of.items i < length d.sets
  inside i hi = elim (eqb_tells i id) [
    | inl e ↦ subst (λ z. z < length d.sets) (sym (ap (slice_index d.of.items) e.1 ∙ here)) hr
    | inr e ↦
        let a = col.inside i hi in
        let longer = x.longer in
        subst (λ z. z < length d.sets) (sym (there i e.1)) (omega (arith, a, longer))
  ]

  pub written : Gains n c d (λ i p. (i ≡ id) × New p)
  written = record {
    column = record {
      count = ap length w ∙ length-set c.of.items id r ∙ col.count;
      inside = inside;
      empty_inside = subst (λ z. z < length d.sets) (sym same)
          (let a = col.empty_inside in let longer = x.longer in omega (arith, a, longer));
      empty_is = λ p m. col.empty_is p (has-sooner c.sets d.sets x c.empty col.empty_inside p
          (subst (λ z. Has d.sets z p) same m));
    };
    leads = λ i p hi. (to i p hi, back i p hi);
  }
    where
      to : (i p : ℕ) → i < n → HasPlace d i p → HasPlace c i p ⊎ ((i ≡ id) × New p)
      to i p hi m = elim (eqb_tells i id) [
        | inl e ↦
            let at : Has d.sets r p = subst (λ z. Has d.sets z p) (ap (slice_index d.of.items) e.1 ∙ here) m in
            elim ((is p).0 at) [
              | inl l ↦ inl (subst (λ z. HasPlace c z p) (sym e.1) l)
              | inr new ↦ inr (e.1, new)
            ]
        | inr e ↦ inl (has-sooner c.sets d.sets x (slice_index c.of.items i) (col.inside i hi) p
            (subst (λ z. Has d.sets z p) (there i e.1) m))
      ]

      back : (i p : ℕ) → i < n → HasPlace c i p ⊎ ((i ≡ id) × New p) → HasPlace d i p
      back i p hi (inr new) =
          subst (λ z. HasPlace d z p) (sym new.0) (subst (λ z. Has d.sets z p) (sym here) ((is p).1 (inr new.1)))
      back i p hi (inl l) = elim (eqb_tells i id) [
        | inl e ↦ subst (λ z. HasPlace d z p) (sym e.1) (subst (λ z. Has d.sets z p) (sym here)
            ((is p).1 (inl (subst (λ z. HasPlace c z p) e.1 l))))
        | inr e ↦ subst (λ z. Has d.sets z p) (sym (there i e.1))
            (has-later c.sets d.sets x (slice_index c.of.items i) (col.inside i hi) p l)
      ]

-- the set of a step is joined with another one
module _ (n : ℕ) (c d : Column) (col : IsColumn n c) (same : d.empty ≡ c.empty) (id : ℕ) (h : id < n) (r : ℕ)
    (w : d.of.items ≡ set c.of.items id r) where
  -- that of a step
  pub joined : Extends c.sets d.sets → (part : ℕ) → part < n
      → IsUnionAt d.sets (slice_index c.of.items id) (slice_index c.of.items part) r
      → Gains n c d (λ i p. (i ≡ id) × HasPlace c part p)
  joined x part hp u = written n c d col x same id h r u.within (HasPlace c part) is w
    where
      is : (p : ℕ) → Has d.sets r p ↔ (HasPlace c id p ⊎ HasPlace c part p)
      is p = (
        λ m. elim ((u.numbers p).0 m) [
          | inl l ↦ inl (has-sooner c.sets d.sets x (slice_index c.of.items id) (col.inside id h) p l)
          | inr l ↦ inr (has-sooner c.sets d.sets x (slice_index c.of.items part) (col.inside part hp) p l)
        ],
        λ e. (u.numbers p).1 (elim e [
          | inl l ↦ inl (has-later c.sets d.sets x (slice_index c.of.items id) (col.inside id h) p l)
          | inr l ↦ inr (has-later c.sets d.sets x (slice_index c.of.items part) (col.inside part hp) p l)
        ]),
      )

  -- a set of one place, which came in between
  pub noted : (mid : List Tree) → Extends c.sets mid → Extends mid d.sets → (b place : ℕ)
      → IsSetOf mid b (λ k. k ≡ place) → IsUnionAt d.sets (slice_index c.of.items id) b r
      → Gains n c d (λ i p. (i ≡ id) × (p ≡ place))
  noted mid first second b place single u = written n c d col x same id h r u.within (λ p. p ≡ place) is w
    where
      x : Extends c.sets d.sets
      x = Extends-trans first second

      there : IsSetOf d.sets b (λ k. k ≡ place)
      there = set-later mid d.sets second b (λ k. k ≡ place) single

      is : (p : ℕ) → Has d.sets r p ↔ (HasPlace c id p ⊎ (p ≡ place))
      is p = (
        λ m. elim ((u.numbers p).0 m) [
          | inl l ↦ inl (has-sooner c.sets d.sets x (slice_index c.of.items id) (col.inside id h) p l)
          | inr l ↦ inr ((there.numbers p).0 l)
        ],
        λ e. (u.numbers p).1 (elim e [
          | inl l ↦ inl (has-later c.sets d.sets x (slice_index c.of.items id) (col.inside id h) p l)
          | inr l ↦ inr ((there.numbers p).1 l)
        ]),
      )

-- ---- step by step
module _ (n : ℕ) where
  -- one of a list more
  pub gains-more : (ids : List ℕ) (k x : ℕ) (c d e : Column) (A : ℕ → ℕ → ℕ → Type 0) → k < length ids
      → x ≡ get_or ids k x
      → Gains n c d (λ i p. (j : ℕ) × IsMember j (take k ids) × A j i p) → Gains n d e (A x)
      → Gains n c e (λ i p. (j : ℕ) × IsMember j (take (k + 1) ids) × A j i p)
  gains-more ids k x c d e A within item g h =
      gains-as n c e (λ i p. ((j : ℕ) × IsMember j (take k ids) × A j i p) ⊎ A x i p)
      (λ i p. (j : ℕ) × IsMember j (take (k + 1) ids) × A j i p) to back
      (gains-then n c d e (λ i p. (j : ℕ) × IsMember j (take k ids) × A j i p) (A x) g h)
    where
      more : take (k + 1) ids ≡ take k ids ++ x ∷ []
      more = taken ids k x within item

      to : (i p : ℕ) → i < n → ((j : ℕ) × IsMember j (take k ids) × A j i p) ⊎ A x i p
          → (j : ℕ) × IsMember j (take (k + 1) ids) × A j i p
      to i p b (inl a) =
          (a.0, subst (IsMember a.0) (sym more) (IsMember-left a.0 (take k ids) (x ∷ []) a.1), a.2)
      to i p b (inr a) = (x, subst (IsMember x) (sym more) (IsMember-last x (take k ids)), a)

      back : (i p : ℕ) → i < n → (j : ℕ) × IsMember j (take (k + 1) ids) × A j i p
          → ((j : ℕ) × IsMember j (take k ids) × A j i p) ⊎ A x i p
      back i p b a = elim (IsMember-push a.0 (take k ids) x (subst (IsMember a.0) more a.1)) [
        | inl m ↦ inl (a.0, m, a.2)
        | inr e ↦ inr (subst (λ j. A j i p) (sym e) a.2)
      ]

-- ---- columns at first
-- all sets are the empty one
pub column-new : (n : ℕ) (c : Column) → length c.of.items ≡ n
    → ((i : ℕ) → i < n → slice_index c.of.items i ≡ c.empty) → IsSetOf c.sets c.empty (λ k. ⊥)
    → IsColumn n c × ((i p : ℕ) → i < n → HasPlace c i p → ⊥)
column-new n c count each empty = (
  record {
    count = count;
    inside = λ i h. subst (λ z. z < length c.sets) (sym (each i h)) empty.within;
    empty_inside = empty.within;
    empty_is = λ p m. (empty.numbers p).0 m;
  },
  λ i p h m. (empty.numbers p).0 (subst (λ z. Has c.sets z p) (each i h) m),
)

-- the places of a set are what it has more than the empty one
pub listed : (n : ℕ) (c : Column) → IsColumn n c → (set : ℕ) (none places : List ℕ) → none ≡ []
    → HasAdded c.sets c.empty set none places → (p : ℕ) → IsMember p places ↔ Has c.sets set p
listed n c col set none places empty h p = (
  λ m. elim (h.only p m) [ inl never ↦ absurd (subst (IsMember p) empty never) | inr has ↦ has ],
  λ has. elim (h.added p has) [ inl never ↦ absurd (col.empty_is p never) | inr m ↦ m ],
)

-- ---- by the length of the column itself
pub own-column : (n : ℕ) (c : Column) → IsColumn n c → IsColumn (length c.of.items) c
own-column n c col = subst (λ k. IsColumn k c) (sym col.count) col

pub own-gains : (n : ℕ) (c d : Column) (A : ℕ → ℕ → Type 0) → IsColumn n c → Gains (length c.of.items) c d A
    → Gains n c d A
own-gains n c d A col g = subst (λ k. Gains k c d A) col.count g

-- a step of a list is inside
pub own-inside : (n : ℕ) (c : Column) (ids : List ℕ) (k x : ℕ) → IsColumn n c → All (λ i. i < n) ids → k < length ids
    → x ≡ get_or ids k x → x < length c.of.items
own-inside n c ids k x col all within item =
    let low : x < n = subst (λ y. y < n) (sym item) (all k x within) in
    let count = col.count in
    omega (arith, low, count)

-- the number that was read at a step
pub read-place : (is : List ℕ) (i id x : ℕ) → id < length is → i ≡ id → x ≡ get_or is i x → x ≡ slice_index is id
read-place is i id x within same read =
    read ∙ ap (λ k. get_or is k x) same ∙ get_or_default is id x 0 within
