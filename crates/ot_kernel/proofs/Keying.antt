-- Keys of sequents: sequents that are one have one key.
use Rattle.std.specs.Prelude.{◌||◌, ◌&&◌, nat_eq, slice_get, Some}
use Rattle.std.specs.List.{All, list_any}
use Rattle.std.specs.Ordering.{nat_cmp, is_eq}
use Rattle.std.specs.declared.cmp.Ordering.{Ordering}
use Rattle.std.specs.declared.cmp.Ordering.TheVariants.{Less, Equal, Greater}
use Rattle.std.specs.Cmp.Lexicographic.{pointwise}
use Rattle.std.proofs.Common.{◌≡◌, ℕ, ◌+◌, ◌<◌, Bool, true, false, cond, List, [], ◌∷◌, ◌++◌, length, get_or, take}
use Rattle.std.proofs.Common.{refl, sym, ap, subst, ◌∙◌, arith, eqb-true, eq-eqb, true≢false}
use Rattle.std.proofs.lemmas.List.Elements.{All-head, All-tail}
use Rattle.std.proofs.lemmas.Option.{slice_get-get_or, get_or_from_slice_get, same_Some}
use Rattle.std.proofs.lemmas.Cmp.{nat_cmp_total, eq_by_cmp_equiv}
use Rattle.std.proofs.lemmas.List.{take_more}
use Rattle.std.proofs.lemmas.List.Folds.{list_any-append}
use Rattle.std.proofs.lemmas.Bool.{and_parts}
use Rattle.std.proofs.lemmas.Bool.Decides.{Decides-eqb}
use Rattle.std.proofs.lemmas.Slice.Eq.{slice_eq-Decides}
use Rattle.std.proofs.lemmas.Map.Lookups.{btree_set_from_contains, exact_unsigned}
use Rattle.ot_logic.specs.Table.{Extends}
use Rattle.ot_logic.specs.Hol.{same_tm, is_in, all_in, same_sequent}
use Rattle.ot_logic.specs.Naming.{numbers}
use Rattle.ot_term.specs.Term.{TermTable}
use Rattle.ot_term.specs.TermTable.{IsTermTable}
use Rattle.ot_kernel.specs.declared.key.SequentKey.{SequentKey}
use Rattle.ot_kernel.specs.Numbered.{tm_at, tms_at}
use Rattle.ot_kernel.specs.Keys.{class_at, same_key, IsKeyOf}
use Rattle.ot_kernel.proofs.Comparing.{tested}

-- ---- tests
both_ways : (a b : Bool) → (a ≡ true → b ≡ true) → (b ≡ true → a ≡ true) → a ≡ b
both_ways true b f g = sym (f refl)
both_ways false true f g = g refl
both_ways false false f g = refl

-- ---- keys
-- keys that pass the test are one
pub same_key-is : (k l : SequentKey) → same_key k l ≡ true → k ≡ l
same_key-is k l same =
    let (concls, sets) = and_parts (nat_eq k.concl l.concl) (pointwise nat_eq k.hyps.keys l.hyps.keys) same in
    let concl = eqb-true k.concl l.concl concls in
    let keys = (slice_eq-Decides Decides-eqb k.hyps.keys l.hyps.keys _ refl).0 sets in
    λ i. record { concl = concl i; hyps = record { keys = keys i } }

-- a sequent has one key
pub one_key : (cs ts : List ℕ) (t : ℕ) (k l : SequentKey) → IsKeyOf cs ts t k → IsKeyOf cs ts t l → k ≡ l
one_key cs ts t k l p q =
    let concl = same_Some k.concl l.concl (sym p.concl ∙ q.concl) in
    let keys = btree_set_from_contains nat_cmp_total k.hyps l.hyps p.ordered q.ordered
    (λ c. p.hyps c ∙ sym (q.hyps c)) exact_unsigned in
    λ i. record { concl = concl i; hyps = record { keys = keys i } }

-- ---- a key as it is gathered
equal-is : (o : Ordering) → is_eq o ≡ true → o ≡ Equal
equal-is Equal e = refl
equal-is Less e = absurd (true≢false (sym e))
equal-is Greater e = absurd (true≢false (sym e))

same_test : (q x : ℕ) → is_eq (nat_cmp x q) ≡ nat_eq q x
same_test q x = both_ways (is_eq (nat_cmp x q)) (nat_eq q x)
    (λ e. eq-eqb q x (sym (exact_unsigned x q (equal-is (nat_cmp x q) e))))
    (λ e. subst (λ y. is_eq (nat_cmp x y) ≡ true) (sym (eqb-true q x e)) ((eq_by_cmp_equiv nat_cmp_total).refl x))

turned : (b c : Bool) → cond c true b ≡ (b || (c || false))
turned true true = refl
turned true false = refl
turned false true = refl
turned false false = refl

-- one hypothesis more
pub gathered-next : (cs is : List ℕ) (k i d q : ℕ) (b new : Bool) → k < length is → i ≡ get_or is k i
    → slice_get cs i ≡ Some d → new ≡ cond (is_eq (nat_cmp d q)) true b
    → b ≡ list_any (λ j. nat_eq q (class_at cs j)) (take k is)
    → new ≡ list_any (λ j. nat_eq q (class_at cs j)) (take (k + 1) is)
gathered-next cs is k i d q b new h here at put before =
    let class : class_at cs i ≡ d = get_or_from_slice_get cs i d 0 at in
    put
    ∙ ap (λ c. cond c true b) (same_test q d)
    ∙ turned b (nat_eq q d)
    ∙ (λ j. before j || (nat_eq q (sym class j) || false))
    ∙ sym (list_any-append (λ j. nat_eq q (class_at cs j)) (take k is) (i ∷ []))
    ∙ ap (λ x. list_any (λ j. nat_eq q (class_at cs j)) (take k is ++ x ∷ [])) here
    ∙ ap (list_any (λ j. nat_eq q (class_at cs j))) (sym (take_more is k i h))

-- ---- a table and a longer one
module _ (cs ds : List ℕ) (e : Extends cs ds) (n : ℕ) (len : length cs ≡ n) where
  at : (i : ℕ) → i < n → class_at cs i ≡ class_at ds i
  at i h =
      let here = slice_get-get_or cs i 0 (omega (arith, len, h)) in
      sym (get_or_from_slice_get ds i (class_at cs i) 0 (e.keeps i (class_at cs i) here))

  any : (c : ℕ) (is : List ℕ) → All (λ i. i < n) is
      → list_any (λ i. nat_eq c (class_at cs i)) is ≡ list_any (λ i. nat_eq c (class_at ds i)) is
  any c [] h = refl
  any c (i ∷ is) h =
      let first = at i (All-head (λ j. j < n) i is h) in
      let rest = any c is (All-tail (λ j. j < n) i is h) in
      λ j. nat_eq c (first j) || rest j

  module _ (ts : List ℕ) (t : ℕ) (k : SequentKey) (within : All (λ i. i < n) ts) (inside : t < n) where
    pub key-older : IsKeyOf ds ts t k → IsKeyOf cs ts t k
    key-older p = record {
      concl =
          let here = slice_get-get_or cs t 0 (omega (arith, len, inside)) in
          here ∙ sym (e.keeps t (class_at cs t) here) ∙ p.concl;
      hyps = λ c. p.hyps c ∙ sym (any c ts within);
      ordered = p.ordered;
    }

    pub key-later : IsKeyOf cs ts t k → IsKeyOf ds ts t k
    key-later p = record {
      concl = e.keeps t k.concl p.concl;
      hyps = λ c. p.hyps c ∙ any c ts within;
      ordered = p.ordered;
    }

-- ---- sequents that are one
module _ (m : TermTable) (table : IsTermTable m) where
  classed : (i : ℕ) → i < length m.terms → slice_get m.classes i ≡ Some (class_at m.classes i)
  classed i h = slice_get-get_or m.classes i 0 (omega (arith, h, table.classed))

  same_class : (i j : ℕ) → i < length m.terms → j < length m.terms
      → nat_eq (class_at m.classes i) (class_at m.classes j) ≡ same_tm numbers (tm_at m.terms j) (tm_at m.terms i)
  same_class i j h g =
      let a = table.alike j i (class_at m.classes j) (class_at m.classes i) (classed j g) (classed i h) in
      tested (nat_eq (class_at m.classes i) (class_at m.classes j)) (tm_at m.terms j) (tm_at m.terms i) (
        λ e. a.0 (sym (eqb-true (class_at m.classes i) (class_at m.classes j) e)),
        λ e. eq-eqb (class_at m.classes i) (class_at m.classes j) (sym (a.1 e)),
      )

  in_classes : (i : ℕ) (is : List ℕ) → i < length m.terms → All (λ j. j < length m.terms) is
      → is_in numbers (tm_at m.terms i) (tms_at m.terms is)
      ≡ list_any (λ j. nat_eq (class_at m.classes i) (class_at m.classes j)) is
  in_classes i [] h g = refl
  in_classes i (j ∷ is) h g =
      let first = same_class i j h (All-head (λ k. k < length m.terms) j is g) in
      let rest = in_classes i is h (All-tail (λ k. k < length m.terms) j is g) in
      λ k. sym first k || rest k

  -- the classes of some terms are among those of others
  subset : (c : ℕ) (is js : List ℕ) → All (λ j. j < length m.terms) is → All (λ j. j < length m.terms) js
      → all_in numbers (tms_at m.terms is) (tms_at m.terms js) ≡ true
      → list_any (λ j. nat_eq c (class_at m.classes j)) is ≡ true
      → list_any (λ j. nat_eq c (class_at m.classes j)) js ≡ true
  subset c [] js h g all e = absurd (true≢false (sym e))
  subset c (i ∷ is) js h g all e =
      let (here, others) = and_parts (is_in numbers (tm_at m.terms i) (tms_at m.terms js))
      (all_in numbers (tms_at m.terms is) (tms_at m.terms js)) all in
      by here (subset c is js (All-tail (λ k. k < length m.terms) i is h) g others)
      (nat_eq c (class_at m.classes i)) refl e
    where
      by : is_in numbers (tm_at m.terms i) (tms_at m.terms js) ≡ true
          → (list_any (λ j. nat_eq c (class_at m.classes j)) is ≡ true
          → list_any (λ j. nat_eq c (class_at m.classes j)) js ≡ true)
          → (b : Bool) → nat_eq c (class_at m.classes i) ≡ b
          → (b || list_any (λ j. nat_eq c (class_at m.classes j)) is) ≡ true
          → list_any (λ j. nat_eq c (class_at m.classes j)) js ≡ true
      by here rest true p q =
          subst (λ d. list_any (λ j. nat_eq d (class_at m.classes j)) js ≡ true)
          (sym (eqb-true c (class_at m.classes i) p))
          (sym (in_classes i js (All-head (λ k. k < length m.terms) i is h) g) ∙ here)
      by here rest false p q = rest q

  -- a key of a sequent is that of each that is the same
  pub keyed-same : (ts us : List ℕ) (t u : ℕ) (k : SequentKey) → All (λ j. j < length m.terms) ts
      → All (λ j. j < length m.terms) us → t < length m.terms → u < length m.terms
      → same_sequent numbers (record { hyps = tms_at m.terms ts; concl = tm_at m.terms t })
      (record { hyps = tms_at m.terms us; concl = tm_at m.terms u }) ≡ true
      → IsKeyOf m.classes us u k → IsKeyOf m.classes ts t k
  keyed-same ts us t u k hts hus ht hu same key =
      let (sets, concls) = and_parts (all_in numbers (tms_at m.terms ts) (tms_at m.terms us)
      && all_in numbers (tms_at m.terms us) (tms_at m.terms ts)) (same_tm numbers (tm_at m.terms t) (tm_at m.terms u))
      same in
      let (forth, back) = and_parts (all_in numbers (tms_at m.terms ts) (tms_at m.terms us))
      (all_in numbers (tms_at m.terms us) (tms_at m.terms ts)) sets in
      let one = eqb-true (class_at m.classes u) (class_at m.classes t) (same_class u t hu ht ∙ concls) in
      let old = same_Some (class_at m.classes u) k.concl (sym (classed u hu) ∙ key.concl) in
      record {
        concl = classed t ht ∙ ap Some (sym one ∙ old);
        hyps = λ c. key.hyps c
            ∙ both_ways (list_any (λ j. nat_eq c (class_at m.classes j)) us)
            (list_any (λ j. nat_eq c (class_at m.classes j)) ts) (subset c us ts hus hts back)
            (subset c ts us hts hus forth);
        ordered = key.ordered;
      }
