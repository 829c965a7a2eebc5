-- Sets of numbers by hash: what is in them, and the members of a list each once.
use mathlib.Core.List.{reverse, reverse-cons, reverse-reverse}
use Rattle.std.specs.Prelude.{if◌then◌else◌, filter, not, ◌||◌}
use Rattle.std.specs.List.{list_any}
use Rattle.std.proofs.Common.{◌≡◌, ℕ, ◌+◌, ◌<◌, Bool, true, false, cond, List, [], ◌∷◌, ◌++◌, length, take, fold}
use Rattle.std.proofs.Common.{get_or, nat_eq, eqb-true, refl, sym, ap, ◌∙◌, arith}
use Rattle.std.proofs.Math.Bool.{or_assoc}
use Rattle.std.proofs.lemmas.Bool.Decides.{nat_tests}
use Rattle.std.proofs.lemmas.List.Elements.{filter_more}
use Rattle.std.proofs.lemmas.List.Folds.{list_any-append}
use Rattle.std.proofs.lemmas.List.Sums.{fold-append}
use Rattle.indexmap.specs.IndexSet.{insert_key}
use Rattle.ot_log_rules.specs.Statements.{once_of}

or-none : (b : Bool) → (b || false) ≡ b
or-none true = refl
or-none false = refl

or-turned : (a b : Bool) → (a || b) ≡ (b || a)
or-turned true true = refl
or-turned true false = refl
or-turned false true = refl
or-turned false false = refl

-- ---- what is in a set
any-insert : (ks : List ℕ) (x t : ℕ)
    → list_any (nat_eq t) (insert_key nat_eq ks x) ≡ (list_any (nat_eq t) ks || nat_eq t x)
any-insert ks x t = by (list_any (nat_eq x) ks) refl
  where
    there : (b : Bool) → nat_eq t x ≡ b → list_any (nat_eq x) ks ≡ true
        → list_any (nat_eq t) ks ≡ (list_any (nat_eq t) ks || b)
    there true e h =
        let has : list_any (nat_eq t) ks ≡ true = ap (λ y. list_any (nat_eq y) ks) (eqb-true t x e) ∙ h in
        has ∙ sym (ap (λ b. b || true) has)
    there false e h = sym (or-none (list_any (nat_eq t) ks))

    by : (b : Bool) → list_any (nat_eq x) ks ≡ b
        → list_any (nat_eq t) (if b then ks else ks ++ x ∷ []) ≡ (list_any (nat_eq t) ks || nat_eq t x)
    by true h = there (nat_eq t x) refl h
    by false h = list_any-append (nat_eq t) ks (x ∷ [])
        ∙ ap (λ b. list_any (nat_eq t) ks || b) (or-none (nat_eq t x))

any-all : (ks xs : List ℕ) (t : ℕ)
    → list_any (nat_eq t) (fold (insert_key nat_eq) ks xs) ≡ (list_any (nat_eq t) ks || list_any (nat_eq t) xs)
any-all ks [] t = sym (or-none (list_any (nat_eq t) ks))
any-all ks (x ∷ xs) t =
    any-all (insert_key nat_eq ks x) xs t ∙ ap (λ b. b || list_any (nat_eq t) xs) (any-insert ks x t)
    ∙ or_assoc (list_any (nat_eq t) ks) (nat_eq t x) (list_any (nat_eq t) xs)

eq-turned : (i j : ℕ) → nat_eq i j ≡ nat_eq j i
eq-turned i j = grind (arith, nat_tests)

any-turned : (xs : List ℕ) (t : ℕ) → list_any (nat_eq t) xs ≡ list_any (λ u. nat_eq u t) xs
any-turned [] t = refl
any-turned (x ∷ xs) t = λ i. eq-turned t x i || any-turned xs t i

pub set-has : (g : List ℕ) (t : ℕ)
    → list_any (nat_eq t) (fold (insert_key nat_eq) [] g) ≡ list_any (λ u. nat_eq u t) g
set-has g t = any-all [] g t ∙ any-turned g t

-- one more of those that a list lacks
pub lacking-next : (g h : List ℕ) (i t : ℕ) (b : Bool) → i < length h → t ≡ get_or h i t
    → b ≡ list_any (nat_eq t) (fold (insert_key nat_eq) [] g)
    → filter (λ u. not (list_any (λ v. nat_eq v u) g)) (take (i + 1) h)
    ≡ filter (λ u. not (list_any (λ v. nat_eq v u) g)) (take i h) ++ cond (not b) (t ∷ []) []
lacking-next g h i t b within at is =
    let p : ℕ → Bool = λ u. not (list_any (λ v. nat_eq v u) g) in
    let same : p (get_or h i t) ≡ not b = ap p (sym at) ∙ ap not (sym (is ∙ set-has g t)) in
    filter_more p h i t within ∙ (λ j. filter p (take i h) ++ cond (same j) (sym at j ∷ []) [])

-- ---- each once
any-reverse : (xs : List ℕ) (t : ℕ) → list_any (nat_eq t) (reverse xs) ≡ list_any (nat_eq t) xs
any-reverse [] t = refl
any-reverse (x ∷ xs) t =
    ap (list_any (nat_eq t)) (reverse-cons x xs) ∙ list_any-append (nat_eq t) (reverse xs) (x ∷ [])
    ∙ (λ i. any-reverse xs t i || or-none (nat_eq t x) i) ∙ or-turned (list_any (nat_eq t) xs) (nat_eq t x)

set-reversed : (g : List ℕ) → fold (insert_key nat_eq) [] (reverse g) ≡ reverse (once_of g)
set-reversed [] = refl
set-reversed (t ∷ ts) =
    ap (fold (insert_key nat_eq) []) (reverse-cons t ts)
    ∙ fold-append (insert_key nat_eq) [] (reverse ts) (t ∷ [])
    ∙ ap (λ ks. insert_key nat_eq ks t) (set-reversed ts)
    ∙ ap (λ b. if b then reverse (once_of ts) else reverse (once_of ts) ++ t ∷ []) (has (set-reversed ts))
    ∙ by (list_any (λ u. nat_eq u t) ts)
  where
    has : fold (insert_key nat_eq) [] (reverse ts) ≡ reverse (once_of ts)
        → list_any (nat_eq t) (reverse (once_of ts)) ≡ list_any (λ u. nat_eq u t) ts
    has e = ap (list_any (nat_eq t)) (sym e) ∙ any-all [] (reverse ts) t ∙ any-reverse ts t ∙ any-turned ts t

    by : (b : Bool) → (if b then reverse (once_of ts) else reverse (once_of ts) ++ t ∷ [])
        ≡ reverse (if b then once_of ts else t ∷ once_of ts)
    by true = refl
    by false = sym (reverse-cons t (once_of ts))

-- the set of the list read from its end, read from its end
pub once-by-set : (g : List ℕ) → reverse (fold (insert_key nat_eq) [] (reverse g)) ≡ once_of g
once-by-set g = ap reverse (set-reversed g) ∙ reverse-reverse (once_of g)
