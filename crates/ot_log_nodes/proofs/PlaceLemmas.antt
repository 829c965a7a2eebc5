-- The places of terms, and what is known of them.
use Rattle.std.specs.Map.{lookup}
use Rattle.std.specs.Prelude.{min, nat_le}
use Rattle.std.proofs.Common.{◌≡◌, ℕ, zero, suc, ◌+◌, ◌-◌, ◌*◌, ◌<◌, ◌≤◌, Bool, true, false}
use Rattle.std.proofs.Common.{cond, nat_eq, eqb-true}
use Rattle.std.proofs.Common.{List, [], ◌∷◌, Some, inl, inr, refl, sym, ap, subst, ◌∙◌, arith}
use Rattle.std.proofs.Common.{BuildHasherDefault, FoldHasher}
use Rattle.std.proofs.lemmas.Bool.{and_parts, leb-true, leb-false}
use Rattle.indexmap.specs.IndexMap.{IndexMap}
use Rattle.ot_logic.proofs.TableLemmas.{Extends-refl}
use Rattle.std.proofs.lemmas.Option.{same_Some, none-some}
use Rattle.ot_logic.specs.Names.{Name}
use Rattle.ot_logic.specs.Table.{Extends}
use Rattle.ot_logic.specs.Trees.{Ty, Tm, Free, Con, Bound, App, Abs}
use Rattle.ot_log_format.specs.Walks.{loose}
use Rattle.ot_log_nodes.specs.Items.{Item, HasTerm, term_at}
use Rattle.ot_log_nodes.specs.Lists.{IsPlace, list_at, HasList, IsList}
use Rattle.ot_log_nodes.specs.Places.{HasPlace, ArePlaces, IsUnion, IsPast, same_pair, AreUnions, ArePlaceTables}
use Rattle.ot_log_nodes.specs.declared.table.places.Pair.{Pair}
use Rattle.ot_log_nodes.specs.declared.table.places.Places.{Places}
use Rattle.ot_log_nodes.specs.declared.table.places.PlaceTables.{PlaceTables}
use Rattle.ot_log_nodes.proofs.ItemLemmas.{term-stays, still-term}
use Rattle.ot_log_nodes.proofs.ListLemmas.{list-stays, still-list}

-- ---- the places of a term, by those of its parts
place-loose : (t : Tm Name) (k : ℕ) → HasPlace t k → k < loose t
place-loose (Free v) k h = absurd h
place-loose (Con n t) k h = absurd h
place-loose (Bound j) k h = omega arith
place-loose (App f x) k h = elim h [
  | inl p ↦ let within = place-loose f k p in omega arith
  | inr p ↦ let within = place-loose x k p in omega arith
]
place-loose (Abs t b) k h = let within = place-loose b (suc k) h in omega arith

pub places-closed : (ls : List (List (ℕ × ℕ))) (t : Tm Name) → loose t ≡ 0 → ArePlaces ls 0 t
places-closed ls t e = record { has = tt; each = λ k h. let within = place-loose t k h in absurd (omega arith) }

pub places-bound : (ls : List (List (ℕ × ℕ))) (b j u : ℕ) (t : Tm Name) → t ≡ Bound j → IsList ls b ((j, u) ∷ [])
    → ArePlaces ls b t
places-bound ls b j u t is h = subst (ArePlaces ls b) (sym is)
    (record { has = h.has; each = λ k e. subst (λ l. IsPlace l k) (sym h.is) (inl e) })

pub places-application : (ls ms : List (List (ℕ × ℕ))) (l r b : ℕ) (t f x : Tm Name) → t ≡ App f x → ArePlaces ls l f
    → ArePlaces ls r x → IsUnion ms (list_at ls l) (list_at ls r) b → ArePlaces ms b t
places-application ls ms l r b t f x is g h u = subst (ArePlaces ms b) (sym is) (record {
  has = u.has;
  each = λ k place. elim place [
    | inl p ↦ u.left k (g.each k p)
    | inr p ↦ u.right k (h.each k p)
  ];
})

pub places-abstraction : (ls ms : List (List (ℕ × ℕ))) (l b : ℕ) (t body : Tm Name) (ty : Ty Name) → t ≡ Abs ty body
    → ArePlaces ls l body → IsPast ms (list_at ls l) 1 b → ArePlaces ms b t
places-abstraction ls ms l b t body ty is h past = subst (ArePlaces ms b) (sym is)
    (record { has = past.has; each = λ k place. past.each (suc k) k (h.each (suc k) place) (omega arith) })

-- ---- places as they are called outside of some binders
module _ (ls : List (List (ℕ × ℕ))) (n : ℕ) where
  -- the first one goes
  pub past-first : (u b : ℕ) → HasList ls b → IsPast ls ((n, u) ∷ list_at ls b) (suc n) b
  past-first u b h = record {
    has = h;
    each = λ k j place e. elim place [
      | inl same ↦ absurd (omega arith)
      | inr q ↦ let same : q.0 ≡ j = omega (arith, q.1) in subst (IsPlace (list_at ls b)) same q.2
    ];
  }

  -- or none does
  pub past-none : (ms : List (List (ℕ × ℕ))) (m s u w b : ℕ) (l : List (ℕ × ℕ)) → s ≡ suc (n + m)
      → IsList ms b ((m, w) ∷ l) → IsPast ms ((s, u) ∷ l) (suc n) b
  past-none ms m s u w b l is h = record {
    has = h.has;
    each = λ k j place e. subst (λ l. IsPlace l j) (sym h.is) (elim place [
      | inl same ↦ inl (omega arith)
      | inr q ↦ inr (q.0, omega (arith, q.1), q.2)
    ]);
  }

pub past-nothing : (ls : List (List (ℕ × ℕ))) (n : ℕ) (l : List (ℕ × ℕ)) → l ≡ [] → IsPast ls l n 0
past-nothing ls n l is = record { has = tt; each = λ k j place e. absurd (subst (λ l. IsPlace l k) is place) }

-- ---- places of two lists
pub union-same : (ls : List (List (ℕ × ℕ))) (b c : ℕ) → HasList ls b → b ≡ c
    → IsUnion ls (list_at ls b) (list_at ls c) b
union-same ls b c h e =
    subst (λ c. IsUnion ls (list_at ls b) (list_at ls c) b) e (record { has = h; left = λ k p. p; right = λ k p. p })

pub union-none_left : (ls : List (List (ℕ × ℕ))) (l : List (ℕ × ℕ)) (b : ℕ) → l ≡ [] → HasList ls b
    → IsUnion ls l (list_at ls b) b
union-none_left ls l b is h = record {
  has = h;
  left = λ k p. absurd (subst (λ l. IsPlace l k) is p);
  right = λ k p. p;
}

pub union-none_right : (ls : List (List (ℕ × ℕ))) (l : List (ℕ × ℕ)) (b : ℕ) → l ≡ [] → HasList ls b
    → IsUnion ls (list_at ls b) l b
union-none_right ls l b is h = record {
  has = h;
  left = λ k p. p;
  right = λ k p. absurd (subst (λ l. IsPlace l k) is p);
}

-- by the places outside of the first binder of one of them
union_part : (l m : List (ℕ × ℕ)) (n s u w k : ℕ) → n ≤ s
    → ((k j : ℕ) → IsPlace ((s, u) ∷ l) k → k ≡ suc n + j → IsPlace m j) → IsPlace ((s, u) ∷ l) k
    → IsPlace ((n, w) ∷ m) k
union_part l m n s u w k le h place = elim place [
  | inl e ↦ first (k - n) (omega arith)
  | inr q ↦ inr (k - suc n, omega (arith, q.1), h k (k - suc n) (inr q) (omega (arith, q.1)))
]
  where
    first : (d : ℕ) → k ≡ n + d → IsPlace ((n, w) ∷ m) k
    first zero e = inl (omega arith)
    first (suc d) e = inr (d, omega arith, h k d place (omega arith))

pub union-later : (ls ms os : List (List (ℕ × ℕ))) (l r : List (ℕ × ℕ)) (n s t u v w left right rest b : ℕ) → n ≤ s
    → n ≤ t → IsPast ls ((s, u) ∷ l) (suc n) left → IsPast ls ((t, v) ∷ r) (suc n) right
    → IsUnion ms (list_at ls left) (list_at ls right) rest → IsList os b ((n, w) ∷ list_at ms rest)
    → IsUnion os ((s, u) ∷ l) ((t, v) ∷ r) b
union-later ls ms os l r n s t u v w left right rest b le lf f g union is = record {
  has = is.has;
  left = λ k place. subst (λ l. IsPlace l k) (sym is.is)
      (union_part l (list_at ms rest) n s u w k le (λ k j p e. union.left j (f.each k j p e)) place);
  right = λ k place. subst (λ l. IsPlace l k) (sym is.is)
      (union_part r (list_at ms rest) n t v w k lf (λ k j p e. union.right j (g.each k j p e)) place);
}

-- one of the two has a place less, so that what is left of both is smaller
pub union-smaller : (a b l r s t n : ℕ) → n ≡ min s t → l ≤ suc a → (n ≡ s → l ≤ a) → r ≤ suc b → (n ≡ t → r ≤ b)
    → 2 * (l + r) + 1 < 2 * (a + b) + 4
union-smaller a b l r s t n least more less more_too less_too = by (nat_le s t) refl
  where
    by : (q : Bool) → nat_le s t ≡ q → 2 * (l + r) + 1 < 2 * (a + b) + 4
    by true e =
        let le = leb-true s t e in
        let shorter = less (omega arith) in
        omega arith
    by false e =
        let lt = leb-false s t e in
        let shorter = less_too (omega arith) in
        omega arith

-- ---- tables that grow
module _ (ls ms : List (List (ℕ × ℕ))) (e : Extends ls ms) where
  pub places-grown : (b : ℕ) (t : Tm Name) → ArePlaces ls b t → ArePlaces ms b t
  places-grown b t h = record {
    has = still-list ls ms e b h.has;
    each = λ k p. subst (λ l. IsPlace l k) (sym (list-stays ls ms e b h.has)) (h.each k p);
  }

  pub past-grown : (l : List (ℕ × ℕ)) (n b : ℕ) → IsPast ls l n b → IsPast ms l n b
  past-grown l n b h = record {
    has = still-list ls ms e b h.has;
    each = λ k j p is. subst (λ l. IsPlace l j) (sym (list-stays ls ms e b h.has)) (h.each k j p is);
  }

  pub union-grown : (l r : List (ℕ × ℕ)) (b : ℕ) → IsUnion ls l r b → IsUnion ms l r b
  union-grown l r b h = record {
    has = still-list ls ms e b h.has;
    left = λ k p. subst (λ l. IsPlace l k) (sym (list-stays ls ms e b h.has)) (h.left k p);
    right = λ k p. subst (λ l. IsPlace l k) (sym (list-stays ls ms e b h.has)) (h.right k p);
  }

  pub unions-grown : (es : List (Pair × ℕ)) → AreUnions ls es → AreUnions ms es
  unions-grown es h = record {
    known = λ p r found.
        let k = h.known p r found in (
          still-list ls ms e p.left k.0,
          still-list ls ms e p.right k.1,
          subst (λ l. IsUnion ms l (list_at ms p.right) r) (sym (list-stays ls ms e p.left k.0))
              (subst (λ m. IsUnion ms (list_at ls p.left) m r) (sym (list-stays ls ms e p.right k.1))
              (union-grown (list_at ls p.left) (list_at ls p.right) r k.2)),
        );
  }

  pub place_tables-grown : (ts us : List Item) → Extends ts us → (p : PlaceTables) → ArePlaceTables ts ls p
      → ArePlaceTables us ms p
  place_tables-grown ts us d p h = record {
    unions = unions-grown p.unions.entries h.unions;
    terms = λ id r found.
        let k = h.terms id r found in (
          still-term ts us d id k.0,
          subst (ArePlaces ms r.list) (sym (term-stays ts us d id k.0)) (places-grown r.list (term_at ts id) k.1),
        );
  }

-- the tables with other unions
pub place_tables-unions : (ts : List Item) (ls ms : List (List (ℕ × ℕ))) → Extends ls ms → (p q : PlaceTables)
    → q.terms ≡ p.terms → ArePlaceTables ts ls p → AreUnions ms q.unions.entries → ArePlaceTables ts ms q
place_tables-unions ts ls ms e p q same h unions =
    let grown = place_tables-grown ls ms e ts ts (Extends-refl ts) p h in
    record {
      unions = unions;
      terms = λ id r found.
          let kept = ap (λ (t : IndexMap ℕ Places (BuildHasherDefault FoldHasher)). lookup (nat_eq id) t.entries) same
          in
          grown.terms id r (sym kept ∙ found);
    }

-- one union more
pub unions-insert : (ls : List (List (ℕ × ℕ))) (old new : List (Pair × ℕ)) (p : Pair) (r : ℕ) → AreUnions ls old
    → HasList ls p.left → HasList ls p.right → IsUnion ls (list_at ls p.left) (list_at ls p.right) r
    → ((q : Pair) → lookup (same_pair q) new ≡ cond (same_pair p q) (Some r) (lookup (same_pair q) old))
    → AreUnions ls new
unions-insert ls old new p r h left right is after =
    record { known = λ q s found. by q s (same_pair p q) refl (sym (after q) ∙ found) }
  where
    by : (q : Pair) (s : ℕ) (b : Bool) → same_pair p q ≡ b → cond (same_pair p q) (Some r) (lookup (same_pair q) old)
        ≡ Some s → HasList ls q.left × HasList ls q.right × IsUnion ls (list_at ls q.left) (list_at ls q.right) s
    by q s true e found =
        let parts = and_parts (nat_eq p.left q.left) (nat_eq p.right q.right) e in
        let l : p.left ≡ q.left = eqb-true p.left q.left parts.0 in
        let m : p.right ≡ q.right = eqb-true p.right q.right parts.1 in
        let value : r ≡ s = same_Some r s (sym (ap (λ b. cond b (Some r) (lookup (same_pair q) old)) e) ∙ found) in (
          subst (HasList ls) l left,
          subst (HasList ls) m right,
          subst (IsUnion ls (list_at ls q.left) (list_at ls q.right)) value
              (subst (λ c. IsUnion ls (list_at ls q.left) (list_at ls c) r) m
              (subst (λ c. IsUnion ls (list_at ls c) (list_at ls p.right) r) l is)),
        )
    by q s false e found = h.known q s (sym (ap (λ b. cond b (Some r) (lookup (same_pair q) old)) e) ∙ found)

-- the places of one term more
pub terms-insert : (ts : List Item) (ls : List (List (ℕ × ℕ))) (old new : List (ℕ × Places)) (id : ℕ) (r : Places)
    → ((q : ℕ) (s : Places) → lookup (nat_eq q) old ≡ Some s → HasTerm ts q × ArePlaces ls s.list (term_at ts q))
    → HasTerm ts id → ArePlaces ls r.list (term_at ts id)
    → ((q : ℕ) → lookup (nat_eq q) new ≡ cond (nat_eq id q) (Some r) (lookup (nat_eq q) old))
    → (q : ℕ) (s : Places) → lookup (nat_eq q) new ≡ Some s → HasTerm ts q × ArePlaces ls s.list (term_at ts q)
terms-insert ts ls old new id r h here is after q s found = by (nat_eq id q) refl (sym (after q) ∙ found)
  where
    by : (b : Bool) → nat_eq id q ≡ b → cond (nat_eq id q) (Some r) (lookup (nat_eq q) old) ≡ Some s
        → HasTerm ts q × ArePlaces ls s.list (term_at ts q)
    by true e p =
        let same : id ≡ q = eqb-true id q e in
        let value : r ≡ s = same_Some r s (sym (ap (λ b. cond b (Some r) (lookup (nat_eq q) old)) e) ∙ p) in (
          subst (HasTerm ts) same here,
          subst (λ (s : Places). ArePlaces ls s.list (term_at ts q)) value
              (subst (λ q. ArePlaces ls r.list (term_at ts q)) same is),
        )
    by false e p = h q s (sym (ap (λ b. cond b (Some r) (lookup (nat_eq q) old)) e) ∙ p)

-- nothing is known
pub place_tables-nothing : (ts : List Item) (ls : List (List (ℕ × ℕ))) (p : PlaceTables) → p.unions.entries ≡ []
    → p.terms.entries ≡ [] → ArePlaceTables ts ls p
place_tables-nothing ts ls p unions terms = record {
  unions = record { known = λ q r h. absurd (none-some r (sym (ap (lookup (same_pair q)) unions) ∙ h)) };
  terms = λ id r h. absurd (none-some r (sym (ap (lookup (nat_eq id)) terms) ∙ h));
}
