-- How many newlines the sample article has.
use Rattle.std.specs.Prelude.{◌≡◌, ℕ, zero, suc, ◌+◌, ◌*◌, ◌<◌, ◌≤◌, ◌^◌, ◌%◌, ◌==◌}
use Rattle.std.specs.Prelude.{cond, false, List, [], ◌∷◌, ◌++◌, codes, decimal, count_by}
use Rattle.std.proofs.Common.{refl, ◌∙◌, ap, arith}
use Rattle.std.proofs.lemmas.Bool.Decides.{nat_tests}
use Rattle.std.proofs.lemmas.Fmt.{decimal_by_steps}
use Rattle.std.proofs.lemmas.List.Sums.{sum_by-append, sum_by-cons}
use Rattle.ot_sample.specs.Sample.{lines, number, opening, doubled, doublings, redex, equality, exported, sample}

abbrev newlines : List ℕ → ℕ
newlines = count_by (λ b. b == 10)

newlines-append : (xs ys : List ℕ) → newlines (xs ++ ys) ≡ newlines xs + newlines ys
newlines-append xs ys = sum_by-append (λ b. cond (b == 10) 1 0) xs ys

digit : (d : ℕ) → d < 10 → newlines ((48 + d) ∷ []) ≡ 0
digit d h =
    let e : (48 + d == 10) ≡ false = grind (arith, nat_tests) in
    sum_by-cons (λ b. cond (b == 10) 1 0) (48 + d) [] ∙ (λ i. cond {A = ℕ} (e i) 1 0 + 0)

newlines-decimal : (n : ℕ) → n < 2 ^ 64 → newlines (decimal n) ≡ 0
newlines-decimal =
    decimal_by_steps (λ n ds. newlines ds ≡ 0) digit
    (λ n ds ten e. newlines-append ds ((48 + n % 10) ∷ []) ∙ (λ i. e i + digit (n % 10) (omega arith) i))

newlines-number : (n : ℕ) → n < 2 ^ 64 → newlines (number n) ≡ 1
newlines-number n h = newlines-append (decimal n) (10 ∷ []) ∙ ap (λ z. z + 1) (newlines-decimal n h)

newlines-doubled : (a b : ℕ) → a < 2 ^ 64 → b < 2 ^ 64 → newlines (doubled a b) ≡ 11
newlines-doubled a b ha hb =
    let one = lines (codes "4 ref ") in
    let two = one ++ number a in
    let three = two ++ lines (codes "ref appTerm ") in
    let four = three ++ number a in
    let five = four ++ lines (codes "ref appTerm ") in
    let six = five ++ number b in
    omega (
      arith,
      newlines-append six (lines (codes "def pop ")),
      newlines-append five (number b),
      newlines-append
          four (lines (codes "ref appTerm ")),
      newlines-append three (number a),
      newlines-append two
          (lines (codes "ref appTerm ")),
      newlines-append one (number a),
      newlines-number a ha,
      newlines-number b hb,
    )

newlines-doublings : (n : ℕ) → n ≤ 1000 → newlines (doublings n) ≡ 22 * n
newlines-doublings zero h = refl
newlines-doublings (suc k) h =
    let one = doubled (4 + 2 * suc k) (6 + 2 * suc k) in
    let two = doubled (5 + 2 * suc k) (7 + 2 * suc k) in
    omega (
      arith,
      newlines-append (doublings k ++ one) two,
      newlines-append (doublings k) one,
      newlines-doublings k
          (omega arith),
      newlines-doubled (4 + 2 * suc k) (6 + 2 * suc k) (omega arith) (omega arith),
      newlines-doubled
          (5 + 2 * suc k) (7 + 2 * suc k) (omega arith) (omega arith),
    )

newlines-redex : (t r : ℕ) → t < 2 ^ 64 → r < 2 ^ 64 → newlines (redex t r) ≡ 15
newlines-redex t r ht hr =
    let one = number t ++ lines (codes "ref refl pop 5 ref ") in
    let two = one ++ number t in
    let three = two ++ lines (codes "ref absTerm 7 ref appTerm ") in
    let four = three ++ number r in
    omega (
      arith,
      newlines-append four (lines (codes "def betaConv ")),
      newlines-append three (number r),
      newlines-append two (lines (codes "ref absTerm 7 ref appTerm ")),
      newlines-append one (number t),
      newlines-append (number t) (lines (codes "ref refl pop 5 ref ")),
      newlines-number t ht,
      newlines-number r hr,
    )

newlines-exported : (r s : ℕ) → r < 2 ^ 64 → s < 2 ^ 64 → newlines (exported r s) ≡ 7
newlines-exported r s hr hs =
    let one = number r ++ lines (codes "ref appTerm ") in
    let two = one ++ number s in
    omega (
      arith,
      newlines-append two (lines (codes "ref appTerm thm ")),
      newlines-append one (number s),
      newlines-append (number r) (lines (codes "ref appTerm ")),
      newlines-number r hr,
      newlines-number s hs,
    )

newlines-opening : newlines opening ≡ 64
newlines-opening = refl

newlines-equality : newlines equality ≡ 24
newlines-equality = refl

pub newlines-sample : (n : ℕ) → n ≤ 1000 → newlines (sample n) ≡ 110 + 22 * n
newlines-sample n h =
    let one = opening ++ doublings n in
    let two = one ++ redex (6 + 2 * n) (8 + 2 * n) in
    let three = two ++ equality in
    omega (
      arith,
      newlines-append three (exported (8 + 2 * n) (7 + 2 * n)),
      newlines-append two equality,
      newlines-append one (redex (6 + 2 * n) (8 + 2 * n)),
      newlines-append opening (doublings n),
      newlines-doublings
          n h,
      newlines-redex (6 + 2 * n) (8 + 2 * n) (omega arith) (omega arith),
      newlines-exported (8 + 2 * n)
          (7 + 2 * n) (omega arith) (omega arith),
      newlines-opening,
      newlines-equality,
    )
