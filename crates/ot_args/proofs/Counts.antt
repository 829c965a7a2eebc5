-- The number of a sample is found by its decimal text.
use Rattle.std.proofs.Common.{◌≡◌, ◌≢◌, ℕ, zero, suc, ◌<◌, ◌≤◌, ◌^◌, Bool, true, false, cond, List, length}
use Rattle.std.proofs.Common.{get_or, leb-true, leb-false, ltb-true, ltb-false, refl, ap, sym, ◌∙◌, arith}
use Rattle.std.specs.Prelude.{Option, None, Some, Result, Ok, Err, decimal, nat_le, nat_lt}
use Rattle.std.specs.Bool.{then_some}
use Rattle.std.specs.Result.{OkIff}
use Rattle.std.specs.Str.Parse.{AllDigits, ParsesUnsigned, digits_value}
use Rattle.std.proofs.lemmas.Bool.Decides.{not_from_Decides}
use Rattle.std.proofs.lemmas.Fmt.{decimal_digit, decimal_injective}
use Rattle.std.proofs.lemmas.Fmt.{decimal-digits_value, first_decimal, parse-decimal}
use Rattle.std.proofs.lemmas.Slice.Eq.{bytes_eq-Decides}
use Rattle.std.proofs.lemmas.Str.Parse.{IsNumeralModel, numerals_by_value, tells_digits, parse_plain}
use Rattle.ot_args.specs.Grammar.{number_to, count_of}

-- a number that is found is one from 1 up, and the text is its decimal
found_one : (m n : ℕ) (text : List ℕ) (b : Bool) (r : Option ℕ) → (b ≡ true → text ≡ decimal (suc m))
    → (r ≡ Some n → (1 ≤ n) × (n ≤ m) × (text ≡ decimal n)) → cond b (Some (suc m)) r ≡ Some n
    → (1 ≤ n) × (n ≤ suc m) × (text ≡ decimal n)
found_one m n text true r is rest h =
    let same : suc m ≡ n = cc in
    (omega arith, omega arith, is refl ∙ ap decimal same)
found_one m n text false r is rest h =
    let before : (1 ≤ n) × (n ≤ m) × (text ≡ decimal n) = rest h in
    (before.0, omega (arith, before.1), before.2)

pub found : (m n : ℕ) (text : List ℕ) → number_to m text ≡ Some n → (1 ≤ n) × (n ≤ m) × (text ≡ decimal n)
unfolding number_to
found zero n text h = cc
found (suc m) n text h = found_one m n text _ _ (bytes_eq-Decides text (decimal (suc m))).0 (found m n text) h

-- a number is found by its decimal
finds_one : (m n : ℕ) (text : List ℕ) (b : Bool) (r : Option ℕ) → suc m < 2 ^ 64 → n ≤ suc m → text ≡ decimal n
    → (b ≡ true → text ≡ decimal (suc m)) → (b ≡ false → text ≢ decimal (suc m)) → (n ≤ m → r ≡ Some n)
    → cond b (Some (suc m)) r ≡ Some n
finds_one m n text true r small most is same other rest =
    ap Some (decimal_injective (suc m) n small (omega arith) (sym (same refl) ∙ is))
finds_one m n text false r small most is same other rest =
    let differs : n ≢ suc m = λ e. other refl (is ∙ ap decimal e) in
    rest (omega (arith, differs))

pub finds : (m n : ℕ) (text : List ℕ) → m < 2 ^ 64 → 1 ≤ n → n ≤ m → text ≡ decimal n → number_to m text ≡ Some n
unfolding number_to
finds zero n text small one most is = absurd (omega arith)
finds (suc m) n text small one most is =
    finds_one m n text _ _ small most is (bytes_eq-Decides text (decimal (suc m))).0
    (not_from_Decides _ (bytes_eq-Decides text (decimal (suc m))))
    (λ (h : n ≤ m). finds m n text (omega arith) one h is)

-- ---- as the code reads it

-- no number where each that would be found is refused
none_found : (m : ℕ) (text : List ℕ) (r : Option ℕ) → number_to m text ≡ r
    → ((n : ℕ) → 1 ≤ n → n ≤ m → text ≢ decimal n) → number_to m text ≡ None
none_found m text None e none = e
none_found m text (Some n) e none =
    let here : (1 ≤ n) × (n ≤ m) × (text ≡ decimal n) = found m n text e in
    absurd (none n here.0 here.1 here.2)

-- no number's text begins with a sign or a zero
pub low_first : (text : List ℕ) → nat_lt 48 (get_or text 0 0) ≡ false → count_of text ≡ None
low_first text low =
    none_found 1000 text _ refl (λ n one most is.
    let below : get_or text 0 0 ≤ 48 = ltb-false 48 (get_or text 0 0) low in
    let first : 48 < get_or (decimal n) 0 0 = first_decimal n (omega arith) (omega arith) in
    let same : get_or text 0 0 ≡ get_or (decimal n) 0 0 = ap (λ (t : List ℕ). get_or t 0 0) is in
    omega arith)

-- a number's text is parsed as the number
is_parsed : {E : Type 0} (text : List ℕ) (r : Result ℕ E) (n : ℕ) → ParsesUnsigned 64 10 text r → n ≤ 1000
    → text ≡ decimal n → r ≡ Ok n
is_parsed text r n h most is = parse-decimal 64 n text r (omega arith) (omega arith) is h

-- digits without a leading zero are the decimal of their value
decimal_parsed : {E : Type 0} (text : List ℕ) (r : Result ℕ E) (k : ℕ) → r ≡ Ok k → ParsesUnsigned 64 10 text r
    → 48 < get_or text 0 0 → text ≡ decimal k
decimal_parsed text (Err e) k ok h first = cc
decimal_parsed {E} text (Ok n) k ok h first =
    let own : IsNumeralModel (AllDigits 10) (digits_value 10) = numerals_by_value _ tells_digits in
    let plain : OkIff {E = E} (Ok n) (AllDigits 10 text × (0 < length text) × (digits_value 10 text < 2 ^ 64))
    (digits_value 10 text) = parse_plain own {E = E} 64 text (Ok n) h (λ e. omega arith) in
    let same : n ≡ k = cc in
    sym (decimal-digits_value own text plain.0.0 plain.0.1 (λ e. absurd (omega arith)) plain.0.2)
    ∙ ap decimal (sym plain.1 ∙ same)

-- the number 0 isn't written so
above_zero : (text : List ℕ) (k : ℕ) → text ≡ decimal k → 48 < get_or text 0 0 → 1 ≤ k
above_zero text zero is first =
    let same : get_or text 0 0 ≡ 48 = ap (λ (t : List ℕ). get_or t 0 0) (is ∙ decimal_digit 0 (omega arith)) in
    absurd (omega arith)
above_zero text (suc k) is first = omega arith

-- a number of a sample
abbrev within : {E : Type 0} → Result ℕ E → Option ℕ
within (Ok k) = then_some (nat_le k 1000) k
within (Err e) = None

-- a text that is parsed as a number
count_parsed : {E : Type 0} (text : List ℕ) (r : Result ℕ E) (k : ℕ) (b : Bool) → r ≡ Ok k
    → ParsesUnsigned 64 10 text r → 48 < get_or text 0 0 → nat_le k 1000 ≡ b → then_some b k ≡ count_of text
count_parsed text r k true ok h first most =
    let is : text ≡ decimal k = decimal_parsed text r k ok h first in
    sym (finds 1000 k text (omega arith) (above_zero text k is first) (leb-true k 1000 most) is)
count_parsed text r k false ok h first above =
    sym (none_found 1000 text _ refl (λ n one most is.
    let read : r ≡ Ok n = is_parsed text r n h most is in
    let same : k ≡ n = cc in
    let over : 1000 < k = leb-false k 1000 above in
    omega arith))

-- the number of a sample is what the text is parsed as
parsed_by : {E : Type 0} (text : List ℕ) (r s : Result ℕ E) → r ≡ s → ParsesUnsigned 64 10 text r
    → 48 < get_or text 0 0 → within s ≡ count_of text
parsed_by text r (Ok k) ok h first = count_parsed text r k _ ok h first refl
parsed_by text r (Err e) err h first =
    sym (none_found 1000 text _ refl (λ n one most is.
    let read : r ≡ Ok n = is_parsed text r n h most is in cc))

pub parsed : {E : Type 0} (text : List ℕ) (r s : Result ℕ E) → r ≡ s → ParsesUnsigned 64 10 text r
    → true ≡ nat_lt 48 (get_or text 0 0) → within s ≡ count_of text
parsed text r s same h first = parsed_by text r s same h (ltb-true 48 (get_or text 0 0) (sym first))
