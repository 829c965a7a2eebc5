-- Lemmas on counting the uses of steps.
use Rattle.std.proofs.Common.{◌≡◌, ◌≢◌, ℕ, zero, suc, ◌+◌, ◌<◌, ◌≤◌, min, Bool, true, false, cond, List, [], ◌∷◌}
use Rattle.std.proofs.Common.{◌++◌, length, map, set, take, replicate, get_or, slice_get, slice_index_or, Some, inl}
use Rattle.std.proofs.Common.{inr, pos, refl, sym, ap, subst, ◌∙◌, arith, eqb-true, eq-eqb, append_assoc, append-nil}
use Rattle.std.specs.Prelude.{nat_eq}
use Rattle.std.specs.Bool.{Decides}
use Rattle.std.specs.List.{All, flat_map}
use Rattle.std.proofs.lemmas.List.{length-set, length-replicate, take_more}
use Rattle.std.proofs.lemmas.List.Elements.{All-head, All-tail}
use Rattle.std.proofs.lemmas.Bool.Decides.{nat_tests, eqb_tells, same_from_decides}
use Rattle.std.proofs.lemmas.Grind.{flat_map-append}
use Rattle.std.proofs.lemmas.Option.{get_or_from_slice_get}
use Rattle.ot_logic.specs.Table.{IsInjective}
use Rattle.ot_trace.specs.Origins.{Origin, Number, listed, operands}
use Rattle.ot_trace.specs.Trace.{origin_at, origins_at, origin_of, IsBelow, operand_numbers}
use Rattle.ot_trace.specs.Uses.{count, marked_from, AreCounts}
use Rattle.ot_trace.specs.Tally.{IsTallied}
use Rattle.ot_trace.specs.declared.step.Step.{Step}
use Rattle.ot_trace.specs.declared.step.Step.TheVariants as steps
use Rattle.ot_trace.proofs.TraceLemmas.{origin_at-injective}

-- ---- reading and writing a list of numbers
get_set-same : (xs : List ℕ) (i v : ℕ) → i < length xs → slice_get (set xs i v) i ≡ Some v
get_set-same [] i v h = absurd (omega arith)
get_set-same (x ∷ xs) zero v h = refl
get_set-same (x ∷ xs) (suc i) v h = get_set-same xs i v (omega arith)

get_set-other : (xs : List ℕ) (i j v : ℕ) → j ≢ i → slice_get (set xs i v) j ≡ slice_get xs j
get_set-other [] i j v n = refl
get_set-other (x ∷ xs) zero zero v n = absurd (n refl)
get_set-other (x ∷ xs) zero (suc j) v n = refl
get_set-other (x ∷ xs) (suc i) zero v n = refl
get_set-other (x ∷ xs) (suc i) (suc j) v n = get_set-other xs i j v (λ e. n (ap suc e))

get-here : (xs : List ℕ) (i d : ℕ) → i < length xs → slice_get xs i ≡ Some (slice_index_or xs i d)
get-here [] i d h = absurd (omega arith)
get-here (x ∷ xs) zero d h = refl
get-here (x ∷ xs) (suc i) d h = get-here xs i d (omega arith)

-- a value that was read
pub read-or : {X : Type 0} (xs : List X) (i : ℕ) (x d : X) → i < length xs → x ≡ slice_index_or xs i x
    → x ≡ slice_index_or xs i d
read-or [] i x d h p = absurd (omega arith)
read-or (y ∷ xs) zero x d h p = p
read-or (y ∷ xs) (suc i) x d h p = read-or xs i x d (omega arith) p

-- ---- one more in a count
module _ {X : Type 0} (same : X → X → Bool) where
  pub count-append : (x : X) (ys zs : List X) → count same x (ys ++ zs) ≡ count same x ys + count same x zs
  count-append x [] zs = omega arith
  count-append x (y ∷ ys) zs = go (same x y) (count-append x ys zs)
    where
      go : (b : Bool) → count same x (ys ++ zs) ≡ count same x ys + count same x zs
          → cond b (suc (count same x (ys ++ zs))) (count same x (ys ++ zs)) ≡ cond b (suc (count same x ys))
          (count same x ys) + count same x zs
      go true h = omega arith
      go false h = h

count-self : (id : ℕ) → count nat_eq id (id ∷ []) ≡ 1
count-self id = let e : nat_eq id id ≡ true = grind (arith, nat_tests) in rw e refl

count-other : (j id : ℕ) → j ≢ id → count nat_eq j (id ∷ []) ≡ 0
count-other j id n = let e : nat_eq j id ≡ false = grind (arith, nat_tests, n) in rw e refl

module _ (counts is : List ℕ) (t : IsTallied is counts) (id : ℕ) (inside : id < length counts) where
  value : slice_index_or counts id 0 ≡ min 2 (count nat_eq id is)
  value = let h = sym (get-here counts id 0 inside) ∙ t id inside in cc

  other : (j : ℕ) → j ≢ id → count nat_eq j (is ++ id ∷ []) ≡ count nat_eq j is
  other j n = let none = count-other j id n in omega (arith, count-append nat_eq j is (id ∷ []))

  more : count nat_eq id (is ++ id ∷ []) ≡ count nat_eq id is + 1
  more = let one = count-self id in omega (arith, count-append nat_eq id is (id ∷ []))

  tallied-more : slice_index_or counts id 0 < 2
      → IsTallied (is ++ id ∷ []) (set counts id (slice_index_or counts id 0 + 1))
  tallied-more h = λ j l. elim (eqb_tells j id) [
    | inl e ↦
        let v = value in
        let m = more in
        let full : slice_index_or counts id 0 + 1 ≡ min 2 (count nat_eq id (is ++ id ∷ [])) = omega arith in
        ap (slice_get (set counts id (slice_index_or counts id 0 + 1))) e.1
        ∙ get_set-same counts id (slice_index_or counts id 0 + 1) inside
        ∙ ap Some (full ∙ ap (λ z. min 2 (count nat_eq z (is ++ id ∷ []))) (sym e.1))
    | inr e ↦ get_set-other counts id j (slice_index_or counts id 0 + 1) e.1
        ∙ t j (let k = length-set counts id (slice_index_or counts id 0 + 1) in omega arith)
        ∙ ap (λ n. Some (min 2 n)) (sym (other j e.1))
  ]

  tallied-full : 2 ≤ slice_index_or counts id 0 → IsTallied (is ++ id ∷ []) counts
  tallied-full h = λ j l. elim (eqb_tells j id) [
    | inl e ↦
        let v = value in
        let m = more in
        let full : min 2 (count nat_eq id is) ≡ min 2 (count nat_eq id (is ++ id ∷ [])) = omega arith in
        t j l ∙ ap Some (ap (λ z. min 2 (count nat_eq z is)) e.1 ∙ full
        ∙ ap (λ z. min 2 (count nat_eq z (is ++ id ∷ []))) (sym e.1))
    | inr e ↦ t j l ∙ ap (λ n. Some (min 2 n)) (sym (other j e.1))
  ]

pub tally-more : (counts is : List ℕ) → IsTallied is counts → (id : ℕ) → id < length counts → (i k : ℕ) → i ≡ id
    → k ≡ id → (x y : ℕ) → x ≡ slice_index_or counts i x → y ≡ slice_index_or counts k y → x < 2
    → IsTallied (is ++ id ∷ []) (set counts k (y + 1))
tally-more counts is t id h i k e f x y p q l =
    let a = read-or counts id x 0 h (subst (λ z. x ≡ slice_index_or counts z x) e p) in
    let b = read-or counts id y 0 h (subst (λ z. y ≡ slice_index_or counts z y) f q) in
    subst (λ z. IsTallied (is ++ id ∷ []) (set counts z (y + 1))) (sym f)
    (subst (λ z. IsTallied (is ++ id ∷ []) (set counts id (z + 1))) (sym b)
    (tallied-more counts is t id h (omega arith)))

pub tally-full : (counts is : List ℕ) → IsTallied is counts → (id : ℕ) → id < length counts → (i : ℕ) → i ≡ id
    → (x : ℕ) → x ≡ slice_index_or counts i x → 2 ≤ x → IsTallied (is ++ id ∷ []) counts
tally-full counts is t id h i e x p l =
    let a = read-or counts id x 0 h (subst (λ z. x ≡ slice_index_or counts z x) e p) in
    tallied-full counts is t id h (omega arith)

-- ---- the loops
pub tally-start : (n : ℕ) → IsTallied [] (replicate n 0)
tally-start n =
    λ j h. get-replicate n j (let e : length (replicate {A = ℕ} n 0) ≡ n = length-replicate n 0 in omega arith)
  where
    get-replicate : (m i : ℕ) → i < m → slice_get {X = ℕ} (replicate m 0) i ≡ Some 0
    get-replicate zero i h = absurd (omega arith)
    get-replicate (suc m) zero h = refl
    get-replicate (suc m) (suc i) h = get-replicate m i (omega arith)

pub tally-next : (ids : List ℕ) (i : ℕ) (counts is : List ℕ) (k : ℕ) → i < length ids → k ≡ get_or ids i k
    → IsTallied ((is ++ take i ids) ++ k ∷ []) counts → IsTallied (is ++ take (i + 1) ids) counts
tally-next ids i counts is k h item t =
    subst (λ l. IsTallied l counts) (append_assoc is (take i ids) (k ∷ [])
    ∙ ap (λ z. is ++ z) (sym (take_more ids i k h ∙ ap (λ x. take i ids ++ x ∷ []) (sym item)))) t

pub tally-true : (counts is xs : List ℕ) (b : Bool) → b ≡ true → IsTallied (is ++ xs) counts
    → IsTallied (is ++ cond b xs []) counts
tally-true counts is xs b e t = subst (λ z. IsTallied (is ++ cond z xs []) counts) (sym e) t

pub tally-false : (counts is xs : List ℕ) (b : Bool) → b ≡ false → IsTallied is counts
    → IsTallied (is ++ cond b xs []) counts
tally-false counts is xs b e t = subst (λ z. IsTallied (is ++ cond z xs []) counts) (sym e)
    (subst (λ l. IsTallied l counts) (sym (append-nil is)) t)

-- ---- the marked ones
pub marked-more : (k : ℕ) (bs : List Bool) (b : Bool) → marked_from k (bs ++ b ∷ []) ≡ marked_from k bs
    ++ cond b ((k + length bs) ∷ []) []
marked-more k [] true = ap (λ z. z ∷ []) (let e : k ≡ k + 0 = omega arith in e)
marked-more k [] false = refl
marked-more k (true ∷ bs) b =
    ap (λ l. k ∷ l) (marked-more (suc k) bs b ∙ ap (λ z. marked_from (suc k) bs ++ cond b (z ∷ []) [])
    (let e : suc k + length bs ≡ k + suc (length bs) = omega arith in e))
marked-more k (false ∷ bs) b = marked-more (suc k) bs b ∙ ap (λ z. marked_from (suc k) bs ++ cond b (z ∷ []) [])
    (let e : suc k + length bs ≡ k + suc (length bs) = omega arith in e)

take-long : (xs : List Bool) (k : ℕ) → k < length xs → length (take k xs) ≡ k
take-long [] k h = absurd (omega arith)
take-long (x ∷ xs) zero h = refl
take-long (x ∷ xs) (suc k) h = ap suc (take-long xs k (omega arith))

-- ---- from numbers to origins
map-append : (ts : List (Origin ℕ)) (xs ys : List ℕ) → map (origin_at ts) (xs ++ ys) ≡ map (origin_at ts) xs
    ++ map (origin_at ts) ys
map-append ts [] ys = refl
map-append ts (x ∷ xs) ys = ap (λ l. origin_at ts x ∷ l) (map-append ts xs ys)

listed-are : (ts : List (Origin ℕ)) (is : List ℕ) → listed (origins_at ts is) ≡ map (origin_at ts) is
listed-are ts [] = refl
listed-are ts (i ∷ is) = ap (λ l. origin_at ts i ∷ l) (listed-are ts is)

operands-are : (ts : List (Origin ℕ)) (s : Step) → operands (origin_of ts s) ≡ map (origin_at ts) (operand_numbers s)
operands-are ts (steps.Number k) = refl
operands-are ts (steps.Name n) = refl
operands-are ts (steps.Make w ops) = listed-are ts ops
operands-are ts (steps.Define w ops syms) = listed-are ts ops.value.items
operands-are ts (steps.Outcome j d) = refl

pub operands-below : (n : ℕ) (s : Step) → IsBelow n s → All (λ i. i < n) (operand_numbers s)
operands-below n (steps.Number k) h = λ i d within. absurd (omega arith)
operands-below n (steps.Name m) h = λ i d within. absurd (omega arith)
operands-below n (steps.Make w ops) h = h
operands-below n (steps.Define w ops syms) h = h.0
operands-below n (steps.Outcome j d) h = λ i d within. absurd (omega arith)

All-more : (n : ℕ) (xs ys : List ℕ) → All (λ i. i < n) xs → All (λ i. i < n) ys → All (λ i. i < n) (xs ++ ys)
All-more n [] ys g h = h
All-more n (x ∷ xs) ys g h =
    both x (xs ++ ys) (All-head (λ i. i < n) x xs g) (All-more n xs ys (All-tail (λ i. i < n) x xs g) h)
  where
    both : (z : ℕ) (zs : List ℕ) → z < n → All (λ i. i < n) zs → All (λ i. i < n) (z ∷ zs)
    both z zs a b zero d within = a
    both z zs a b (suc i) d within = b i d (omega arith)

-- the uses by the roots and the marked places so far
abbrev pub used_so_far : List (Origin ℕ) → List ℕ → List Bool → List (Origin ℕ)
used_so_far ts roots marks = map (origin_at ts) roots ++ flat_map operands (map (origin_at ts) (marked_from 0 marks))

-- the counts are those of numbers that stand for these origins
pub record Tallies (ts : List (Origin ℕ)) (os : List (Origin ℕ)) (counts : List ℕ) : Type 0 where
  pub length_is : length counts ≡ length ts
  pub numbers : List ℕ
  pub inside : All (λ i. i < length ts) numbers
  pub are : map (origin_at ts) numbers ≡ os
  pub tallied : IsTallied numbers counts

pub tallies-roots : (ts : List (Origin ℕ)) (roots counts : List ℕ) → length counts ≡ length ts
    → All (λ i. i < length ts) roots → IsTallied roots counts → Tallies ts (used_so_far ts roots []) counts
tallies-roots ts roots counts long inside t = record {
  length_is = long;
  numbers = roots;
  inside = inside;
  are = sym (append-nil (map (origin_at ts) roots));
  tallied = t;
}

pub tallies-more : (ts : List (Origin ℕ)) (roots : List ℕ) (marks : List Bool) (i : ℕ) (s : Step)
    (counts after : List ℕ) → i < length marks
    → slice_get ts i ≡ Some (origin_of ts s) → IsBelow (length ts) s → length after ≡ length counts
    → ((is : List ℕ) → IsTallied is counts → IsTallied (is ++ cond (get_or marks i false) (operand_numbers s) [])
    after)
    → Tallies ts (used_so_far ts roots (take i marks)) counts
    → Tallies ts (used_so_far ts roots (take (i + 1) marks)) after
tallies-more ts roots marks i s counts after within at below long step t = record {
  length_is = long ∙ t.length_is;
  numbers = t.numbers ++ cond (get_or marks i false) (operand_numbers s) [];
  inside = All-more (length ts) t.numbers (cond (get_or marks i false) (operand_numbers s) []) t.inside
      (chosen (get_or marks i false));
  are = map-append ts t.numbers (cond (get_or marks i false) (operand_numbers s) [])
      ∙ ap (λ os. os ++ map (origin_at ts) (cond (get_or marks i false) (operand_numbers s) [])) t.are
      ∙ append_assoc (map (origin_at ts) roots) _ _ ∙ ap (λ os. map (origin_at ts) roots ++ os) (sym longer);
  tallied = step t.numbers t.tallied;
}
  where
    chosen : (b : Bool) → All (λ i. i < length ts) (cond b (operand_numbers s) [])
    chosen true = operands-below (length ts) s below
    chosen false = λ i d within. absurd (omega arith)

    tree : origin_at ts i ≡ origin_of ts s
    tree = get_or_from_slice_get ts i _ (Number (pos 0)) at

    one : (b : Bool) → flat_map operands (map (origin_at ts) (cond b (i ∷ []) []))
        ≡ map (origin_at ts) (cond b (operand_numbers s) [])
    one true = append-nil (operands (origin_at ts i)) ∙ ap operands tree ∙ operands-are ts s
    one false = refl

    marked : marked_from 0 (take (i + 1) marks) ≡ marked_from 0 (take i marks) ++ cond (get_or marks i false)
        (i ∷ []) []
    marked =
        let m = take-long marks i within in
        let e : 0 + length (take i marks) ≡ i = omega (arith, m) in
        ap (marked_from 0) (take_more marks i false within) ∙ marked-more 0 (take i marks) (get_or marks i false)
        ∙ ap (λ z. marked_from 0 (take i marks) ++ cond (get_or marks i false) (z ∷ []) []) e

    longer : flat_map operands (map (origin_at ts) (marked_from 0 (take (i + 1) marks)))
        ≡ flat_map operands (map (origin_at ts) (marked_from 0 (take i marks)))
        ++ map (origin_at ts) (cond (get_or marks i false) (operand_numbers s) [])
    longer =
        ap (λ l. flat_map operands (map (origin_at ts) l)) marked ∙ ap (flat_map operands)
        (map-append ts (marked_from 0 (take i marks)) (cond (get_or marks i false) (i ∷ []) []))
        ∙ flat_map-append operands (map (origin_at ts) (marked_from 0 (take i marks)))
        (map (origin_at ts) (cond (get_or marks i false) (i ∷ []) []))
        ∙ ap (λ os. flat_map operands (map (origin_at ts) (marked_from 0 (take i marks))) ++ os)
        (one (get_or marks i false))

-- as often as a number stands its origin does
counts-are : (ts : List (Origin ℕ)) → IsInjective ts → (same : Origin ℕ → Origin ℕ → Bool)
    → ((a b : Origin ℕ) → Decides (same a b) (a ≡ b)) → (j : ℕ) → j < length ts
    → (is : List ℕ) → All (λ i. i < length ts) is → count same (origin_at ts j) (map (origin_at ts) is)
    ≡ count nat_eq j is
counts-are ts one same decides j within [] h = refl
counts-are ts one same decides j within (i ∷ is) h =
    let low : i < length ts = All-head (λ i. i < length ts) i is h in
    let tail = counts-are ts one same decides j within is (All-tail (λ i. i < length ts) i is h) in
    let trees = decides (origin_at ts j) (origin_at ts i) in
    let head : same (origin_at ts j) (origin_at ts i) ≡ nat_eq j i =
    same_from_decides {P = j ≡ i} _ _ (
      (λ e. origin_at-injective ts one j i within low (trees.0 e)),
      (λ e. trees.1 (ap (origin_at ts) e)),
    ) (eqb-true j i, eq-eqb j i)
    in
    rw (head, tail) refl

pub counts-end : (ts : List (Origin ℕ)) → IsInjective ts → (roots : List ℕ) (marks : List Bool) (counts : List ℕ)
    → Tallies ts (used_so_far ts roots marks) counts → AreCounts ts roots marks counts
counts-end ts one roots marks counts t = record {
  length_is = t.length_is;
  counted = λ same decides j within.
      let tally = t.tallied j (omega (arith, t.length_is)) in
      let sum = count-append same (origin_at ts j) (map (origin_at ts) roots)
      (flat_map operands (map (origin_at ts) (marked_from 0 marks))) in
      tally ∙ ap (λ n. Some (min 2 n)) (sym (counts-are ts one same decides j within t.numbers t.inside)
      ∙ ap (count same (origin_at ts j)) t.are ∙ sum);
}
