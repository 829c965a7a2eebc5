-- Numbers in decimal digits: the digits followed by no further digit give back the number.
use Rattle.std.specs.Prelude.{◌≡◌, ℕ, zero, suc, ◌+◌, ◌<◌, Bool, true, false, not, List, [], ◌∷◌, ◌++◌, map}
use Rattle.std.specs.List.{AllByRecursion}
use Rattle.std.proofs.lemmas.Int.Digits.{all_below_base_digits_of, same_from_digits_of, first_digits_of}
use Rattle.std.proofs.lemmas.Bool.Decides.{nat_tests}
use Rattle.std.proofs.Common.{refl, sym, subst, arith, get_or}
use Rattle.ot_text.specs.Texts.{number_text}
use Rattle.ot_text.specs.Laws.{is_digit, no_digit}
use Rattle.ot_text.proofs.Spelling.{tail-same, cons-same}

abbrev pub AllDigit : List ℕ → Type 0
AllDigit = AllByRecursion (λ c. is_digit c ≡ true)

not-both : (b : Bool) → b ≡ true → not b ≡ true → ⊥
not-both true p q = cc
not-both false p q = cc

digits-split : (xs ys r s : List ℕ) → AllDigit xs → AllDigit ys → no_digit r ≡ true → no_digit s ≡ true
    → xs ++ r ≡ ys ++ s → (xs ≡ ys) × (r ≡ s)
digits-split [] [] r s a b h k p = (refl, p)
digits-split [] (y ∷ ys) r s a b h k p = absurd (not-both (is_digit y) b.0 (subst (λ z. no_digit z ≡ true) p h))
digits-split (x ∷ xs) [] r s a b h k p = absurd (not-both (is_digit x) a.0 (subst (λ z. no_digit z ≡ true) (sym p) k))
digits-split (x ∷ xs) (y ∷ ys) r s a b h k p =
    let q : x ≡ y = cc in
    cons-same x y xs ys r s q (digits-split xs ys r s a.1 b.1 h k (tail-same x y _ _ p))

glyph-digit : (d : ℕ) → d < 10 → is_digit (48 + d) ≡ true
glyph-digit d h = grind (arith, nat_tests)

glyphs-digit : (ds : List ℕ) → AllByRecursion (λ d. d < 10) ds → AllDigit (map (λ d. 48 + d) ds)
glyphs-digit [] a = a
glyphs-digit (d ∷ ds) a = (glyph-digit d a.0, glyphs-digit ds a.1)

glyphs-same : (ds es : List ℕ) → map (λ d. 48 + d) ds ≡ map (λ d. 48 + d) es → ds ≡ es
glyphs-same [] [] p = refl
glyphs-same [] (e ∷ es) p = cc
glyphs-same (d ∷ ds) [] p = cc
glyphs-same (d ∷ ds) (e ∷ es) p =
    let q : 48 + d ≡ 48 + e = cc in
    let w : d ≡ e = omega arith in
    let v = glyphs-same ds es (tail-same _ _ _ _ p) in cc

not-zero : (ds : List ℕ) → 0 < get_or ds 0 0 → 48 ∷ [] ≡ map (λ d. 48 + d) ds → ⊥
not-zero [] h p = cc
not-zero (d ∷ ds) h p = let q : 48 ≡ 48 + d = cc in omega arith

digits-of-number : (n : ℕ) → AllDigit (number_text n)
digits-of-number zero = (refl, tt)
digits-of-number (suc k) = glyphs-digit _ (all_below_base_digits_of 10 (suc k) (omega arith))

pub number-same : (m n : ℕ) → number_text m ≡ number_text n → m ≡ n
number-same zero zero p = refl
number-same zero (suc n) p = absurd (not-zero _ (first_digits_of 10 (suc n) (omega arith) (omega arith)) p)
number-same (suc m) zero p = absurd (not-zero _ (first_digits_of 10 (suc m) (omega arith) (omega arith)) (sym p))
number-same (suc m) (suc n) p = same_from_digits_of 10 (suc m) (suc n) (omega arith) (glyphs-same _ _ p)

pub number-inj : (m n : ℕ) (r s : List ℕ) → no_digit r ≡ true → no_digit s ≡ true → number_text m ++ r ≡ number_text n
    ++ s → (m ≡ n) × (r ≡ s)
number-inj m n r s h k p =
    let e = digits-split (number_text m) (number_text n) r s (digits-of-number m) (digits-of-number n) h k p in
    (number-same m n e.0, e.1)
