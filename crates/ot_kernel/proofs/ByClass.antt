-- Terms found by the numbers of their alpha classes.
use Rattle.std.specs.Prelude.{◌||◌, nat_eq, slice_get, Some}
use Rattle.std.specs.List.{All, list_any}
use Rattle.std.proofs.Common.{◌≡◌, ℕ, ◌+◌, ◌-◌, ◌<◌, ◌≤◌, Bool, true, false, cond, if◌then◌else◌}
use Rattle.std.proofs.Common.{List, [], ◌∷◌, ◌++◌, length, get_or, take, drop, refl, sym}
use Rattle.std.proofs.Common.{ap, subst, ◌∙◌, arith, eqb-true, eq-eqb, append_assoc}
use Rattle.std.proofs.lemmas.List.{append-nil, drop_all, take_rest, reverse-append}
use Rattle.std.proofs.lemmas.List.Elements.{All-push}
use Rattle.ot_logic.specs.Trees.{Tm}
use Rattle.ot_logic.specs.Hol.{same_tm, is_in, lacking, union, once_each}
use Rattle.ot_logic.specs.Naming.{numbers}
use Rattle.ot_term.specs.Term.{TermTable}
use Rattle.ot_term.specs.TermTable.{IsTermTable}
use Rattle.ot_kernel.specs.Numbered.{tm_at, tms_at}
use Rattle.ot_kernel.specs.Classes.{AreClassesOf, AddsClass}
use Rattle.ot_kernel.proofs.Comparing.{tested, once_next}
use Rattle.ot_kernel.proofs.Namings.{map-drop, map-push}
use mathlib.Core.List.{reverse}

either : (b x : Bool) → cond b true x ≡ (b || x)
either true x = refl
either false x = refl

or_false : (b : Bool) → (b || false) ≡ b
or_false true = refl
or_false false = refl

first_last : (a b x : Bool) → ((a || b) || x) ≡ (b || (a || x))
first_last true true x = refl
first_last true false x = refl
first_last false true x = refl
first_last false false x = refl

-- the class of a term is added to the classes: what a set answers after it was put in
pub adds-class : (m : TermTable) → IsTermTable m → (t d : ℕ) (old new : List ℕ) → slice_get m.classes t ≡ Some d
    → ((c : ℕ) → list_any (nat_eq c) new ≡ cond (nat_eq d c) true (list_any (nat_eq c) old)) → AddsClass m t old new
adds-class m table t d old new at more i c p =
    let a = table.alike t i d c at p in
    let same : nat_eq d c ≡ same_tm numbers (tm_at m.terms t) (tm_at m.terms i) =
    tested (nat_eq d c) (tm_at m.terms t) (tm_at m.terms i) (λ h. a.0 (eqb-true d c h), λ e. eq-eqb d c (a.1 e)) in
    more c ∙ either (nat_eq d c) (list_any (nat_eq c) old) ∙ ap (λ b. b || list_any (nat_eq c) old) same

module _ (m : TermTable) where
  -- one term more
  pub classes-more : (t : ℕ) (us : List (Tm ℕ)) (old new : List ℕ) → AddsClass m t old new → AreClassesOf m us old
      → AreClassesOf m (tm_at m.terms t ∷ us) new
  classes-more t us old new adds are i c p = adds i c p
      ∙ ap (λ b. same_tm numbers (tm_at m.terms t) (tm_at m.terms i) || b) (are i c p)

  -- the classes are those of the terms but for the rest from a place on
  abbrev pub AreClassesBefore : List ℕ → ℕ → List ℕ → Type 0
  AreClassesBefore is k ks = (i c : ℕ) → slice_get m.classes i ≡ Some c
      → (list_any (nat_eq c) ks || is_in numbers (tm_at m.terms i) (tms_at m.terms (drop k is)))
      ≡ is_in numbers (tm_at m.terms i) (tms_at m.terms is)

  pub before-next : (is : List ℕ) (k t : ℕ) (old new : List ℕ) → k < length is → t ≡ get_or is k t
      → AddsClass m t old new → AreClassesBefore is k old → AreClassesBefore is (k + 1) new
  before-next is k t old new h e adds before i c p =
      let rest = is_in numbers (tm_at m.terms i) (tms_at m.terms (drop (k + 1) is)) in
      let same = same_tm numbers (tm_at m.terms t) (tm_at m.terms i) in
      ap (λ b. b || rest) (adds i c p)
      ∙ first_last same (list_any (nat_eq c) old) rest
      ∙ ap (λ l. list_any (nat_eq c) old || is_in numbers (tm_at m.terms i) l)
      (sym (map-drop (tm_at m.terms) is k t h e))
      ∙ before i c p

  pub before-last : (is : List ℕ) (k : ℕ) (ks : List ℕ) → length is ≤ k → AreClassesBefore is k ks
      → AreClassesOf m (tms_at m.terms is) ks
  before-last is k ks h before i c p =
      sym (or_false (list_any (nat_eq c) ks))
      ∙ ap (λ l. list_any (nat_eq c) ks || is_in numbers (tm_at m.terms i) (tms_at m.terms l)) (sym (drop_all k is h))
      ∙ before i c p

  -- the terms behind the place before j are those from j on
  pub behind : (is : List ℕ) (j : ℕ) → 0 < j → take (length is - (j - 1 + 1)) (drop (j - 1 + 1) is) ≡ drop j is
  behind is j h =
      let here : j - 1 + 1 ≡ j = omega arith in
      take_rest is (j - 1 + 1) ∙ ap (λ n. drop n is) here

  -- the term before j is added to those from j on
  pub classes-back : (is : List ℕ) (j t : ℕ) → 0 < j → j ≤ length is → t ≡ get_or is (j - 1) t
      → tm_at m.terms t ∷ tms_at m.terms (drop j is) ≡ tms_at m.terms (drop (j - 1) is)
  classes-back is j t h k e =
      let here : j - 1 + 1 ≡ j = omega arith in
      ap (λ n. tm_at m.terms t ∷ tms_at m.terms (drop n is)) (sym here)
      ∙ sym (map-drop (tm_at m.terms) is (j - 1) t (omega arith) e)

  -- each member once, from the last on: the term before j is put at the end where it isn't among those behind it
  pub once-back : (is old new : List ℕ) (j t : ℕ) → 0 < j → j ≤ length is → t ≡ get_or is (j - 1) t
      → new ≡ (if is_in numbers (tm_at m.terms t)
      (tms_at m.terms (take (length is - (j - 1 + 1)) (drop (j - 1 + 1) is))) then old else old ++ t ∷ [])
      → tms_at m.terms (reverse old) ≡ once_each numbers (tms_at m.terms (drop j is))
      → tms_at m.terms (reverse new) ≡ once_each numbers (tms_at m.terms (drop (j - 1) is))
  once-back is old new j t h k e put made =
      let b = is_in numbers (tm_at m.terms t)
      (tms_at m.terms (take (length is - (j - 1 + 1)) (drop (j - 1 + 1) is))) in
      let here : j - 1 + 1 ≡ j = omega arith in
      ap (λ l. tms_at m.terms (reverse l)) put
      ∙ turned b
      ∙ ap (λ l. cond b l (tm_at m.terms t ∷ l))
      (made ∙ ap (λ n. once_each numbers (tms_at m.terms (drop n is))) (sym here))
      ∙ sym (once_next m.terms is (j - 1) t b (omega arith) e refl)
    where
      turned : (b : Bool) → tms_at m.terms (reverse (if b then old else old ++ t ∷ []))
          ≡ cond b (tms_at m.terms (reverse old)) (tm_at m.terms t ∷ tms_at m.terms (reverse old))
      turned true = refl
      turned false = ap (tms_at m.terms) (reverse-append old (t ∷ []))

  -- a union: the next term is put at the end where the first list lacks it
  pub union-next : (g us : List (Tm ℕ)) (is old new : List ℕ) (k t : ℕ) → k < length is → t ≡ get_or is k t
      → new ≡ (if is_in numbers (tm_at m.terms t) g then old else old ++ t ∷ [])
      → tms_at m.terms old ++ lacking numbers g (tms_at m.terms (drop k is)) ≡ us
      → tms_at m.terms new ++ lacking numbers g (tms_at m.terms (drop (k + 1) is)) ≡ us
  union-next g us is old new k t h e put made =
      let rest = lacking numbers g (tms_at m.terms (drop (k + 1) is)) in
      ap (λ l. tms_at m.terms l ++ rest) put
      ∙ turned (is_in numbers (tm_at m.terms t) g) rest
      ∙ sym (ap (λ l. tms_at m.terms old ++ lacking numbers g l) (map-drop (tm_at m.terms) is k t h e))
      ∙ made
    where
      turned : (b : Bool) (rest : List (Tm ℕ)) → tms_at m.terms (if b then old else old ++ t ∷ []) ++ rest
          ≡ tms_at m.terms old ++ cond b rest (tm_at m.terms t ∷ rest)
      turned true rest = refl
      turned false rest = ap (λ l. l ++ rest) (map-push (tm_at m.terms) old t)
          ∙ append_assoc (tms_at m.terms old) (tm_at m.terms t ∷ []) rest

  -- at the end none is left
  pub union-end : (g us : List (Tm ℕ)) (is all : List ℕ) (k : ℕ) → length is ≤ k
      → tms_at m.terms all ++ lacking numbers g (tms_at m.terms (drop k is)) ≡ us → tms_at m.terms all ≡ us
  union-end g us is all k h made =
      sym (append-nil (tms_at m.terms all))
      ∙ ap (λ l. tms_at m.terms all ++ lacking numbers g (tms_at m.terms l)) (sym (drop_all k is h))
      ∙ made

  -- behind an empty list all of the other one stand
  pub union-none : (g h : List ℕ) → length g ≡ 0 → tms_at m.terms h ≡ union numbers (tms_at m.terms g) (tms_at m.terms h)
  union-none [] h none = all (tms_at m.terms h)
    where
      all : (us : List (Tm ℕ)) → us ≡ lacking numbers [] us
      all [] = refl
      all (u ∷ us) = ap (λ l. u ∷ l) (all us)
  union-none (i ∷ g) h none = absurd (omega (arith, none))

-- what may be put at the end of a list is of the table
pub put-inside : (n : ℕ) (old new : List ℕ) (t : ℕ) (b : Bool) → new ≡ (if b then old else old ++ t ∷ []) → t < n
    → All (λ i. i < n) old → All (λ i. i < n) new
put-inside n old new t b put h inside = subst (All (λ i. i < n)) (sym put) (by b)
  where
    by : (c : Bool) → All (λ i. i < n) (if c then old else old ++ t ∷ [])
    by true = inside
    by false = All-push (λ i. i < n) old t inside h
