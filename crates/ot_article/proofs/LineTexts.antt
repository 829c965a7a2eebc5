-- Each line of a written article is read back.
use Rattle.std.proofs.Common.{rules, ◌≡◌, ◌≢◌, ℕ, suc, ◌<◌, ◌≤◌, ◌^◌, ◌==◌, inl, inr, true, false}
use Rattle.std.proofs.Common.{List, [], ◌∷◌, length, get_or, Some, Ok, refl, sym, ap, ◌∙◌, arith}
use Rattle.std.specs.Prelude.{pos, negsuc, nat_lt}
use Rattle.std.specs.List.{list_all}
use Rattle.std.specs.Char.{is_ascii_digit}
use Rattle.std.specs.Str.Parse.{digits_value}
use Rattle.std.specs.Fmt.{decimal}
use Rattle.std.proofs.lemmas.Fmt.{digits_decimal, digits_value-decimal}
use Rattle.std.proofs.lemmas.Fmt.{first_decimal, decimal_nonempty, decimal_digit}
use Rattle.std.proofs.lemmas.Str.Parse.{IsNumeralModel, numerals_by_value}
use Rattle.std.proofs.lemmas.Bool.Decides.{nat_tests, eqb_tells}
use Rattle.std.proofs.lemmas.Bool.{and_parts}
use Rattle.ot_logic.specs.Names.{Name, IsName, spelled}
use Rattle.ot_logic.specs.Reading.{name_read}
use Rattle.ot_logic.specs.Commands.{spelling}
use Rattle.ot_logic.specs.declared.command.Cmd.{Cmd}
use Rattle.ot_logic.specs.declared.command.Cmd.TheVariants as words
use Rattle.ot_scan.specs.Words.{word, Numeral, Quoted, Order, positive, is_in_range}
use Rattle.ot_logic.proofs.Reading.{spells-name_read}
use Rattle.ot_logic.proofs.Spelling.{spelled-plain}

-- ---- numbers

pub digit-range : (d : ℕ) → is_ascii_digit d ≡ true → (48 ≤ d) × (d ≤ 57)
digit-range d h = (grind (arith, nat_tests), grind (arith, nat_tests))

pub all_digits : IsNumeralModel (λ ds. list_all is_ascii_digit ds ≡ true) (digits_value 10)
all_digits = numerals_by_value (λ ds. list_all is_ascii_digit ds ≡ true) (search rules)

pub in-range : (n : ℕ) → n < 2 ^ 63 → is_in_range (pos n) ≡ true
in-range n h = grind (arith, nat_tests)

positive-read : (d : ℕ) (ds : List ℕ) (n : ℕ) → list_all is_ascii_digit (d ∷ ds) ≡ true → 48 < d
    → digits_value 10 (d ∷ ds) ≡ n → n < 2 ^ 63 → word (d ∷ ds) ≡ Ok (Numeral (pos n))
positive-read d ds n all low value small =
    let dig : is_ascii_digit d ≡ true = (and_parts (is_ascii_digit d) (list_all is_ascii_digit ds) all).0 in
    let rest : list_all is_ascii_digit ds ≡ true = (and_parts (is_ascii_digit d) (list_all is_ascii_digit ds) all).1 in
    let range = digit-range d dig in
    let high : d ≤ 57 = range.1 in
    let quote : (d == 34) ≡ false = grind (arith, nat_tests) in
    let minus : (d == 45) ≡ false = grind (arith, nat_tests) in
    let zero_digit : (d == 48) ≡ false = grind (arith, nat_tests) in
    let more : nat_lt 48 d ≡ true = grind (arith, nat_tests) in
    let fits : is_in_range (pos n) ≡ true = in-range n small in
    rw (quote, minus, dig, zero_digit, more, rest, value, fits) refl

number-read : (ds : List ℕ) (n : ℕ) → list_all is_ascii_digit ds ≡ true → 0 < length ds → (0 < n → 48 < get_or ds 0 0)
    → (n ≡ 0 → ds ≡ 48 ∷ []) → digits_value 10 ds ≡ n → n < 2 ^ 63 → word ds ≡ Ok (Numeral (pos n))
number-read [] n all some first none value small = absurd (omega arith)
number-read (d ∷ ds) n all some first none value small = elim (eqb_tells n 0) [
  | inl e ↦ ap word (none e.1) ∙ ap (λ z. Ok (Numeral (pos z))) (sym e.1)
  | inr e ↦ (let f : n ≢ 0 = e.1 in let g : 0 < n = omega arith in positive-read d ds n all (first g) value small)
]

pub decimal-read : (n : ℕ) → n < 2 ^ 63 → word (decimal n) ≡ Ok (Numeral (pos n))
decimal-read n h =
    let k : n < 2 ^ 64 = omega arith in
    number-read (decimal n) n (digits_decimal all_digits n k) (decimal_nonempty n k) (λ l. first_decimal n l k)
    (λ e. ap decimal e ∙ decimal_digit 0 (omega arith)) (digits_value-decimal all_digits n k) h

pub range-pos : (n : ℕ) → is_in_range (pos n) ≡ true → n < 2 ^ 63
range-pos n h = grind (arith, nat_tests)

pub range-neg : (n : ℕ) → is_in_range (negsuc n) ≡ true → n < 2 ^ 63
range-neg n h = grind (arith, nat_tests)

-- digits that don't begin with 0
positive-is : (d : ℕ) (ds : List ℕ) (n : ℕ) → list_all is_ascii_digit (d ∷ ds) ≡ true → 48 < d
    → digits_value 10 (d ∷ ds) ≡ n → positive (d ∷ ds) ≡ Some n
positive-is d ds n all low value =
    let dig : is_ascii_digit d ≡ true = (and_parts (is_ascii_digit d) (list_all is_ascii_digit ds) all).0 in
    let rest : list_all is_ascii_digit ds ≡ true = (and_parts (is_ascii_digit d) (list_all is_ascii_digit ds) all).1 in
    let more : nat_lt 48 d ≡ true = grind (arith, nat_tests) in
    rw (more, dig, rest) (ap Some value)

digits-positive : (ds : List ℕ) (n : ℕ) → list_all is_ascii_digit ds ≡ true → 0 < length ds → 48 < get_or ds 0 0
    → digits_value 10 ds ≡ n → positive ds ≡ Some n
digits-positive [] n all some low value = absurd (omega arith)
digits-positive (d ∷ ds) n all some low value = positive-is d ds n all low value

pub negative-read : (n : ℕ) → is_in_range (negsuc n) ≡ true → word (45 ∷ decimal (suc n)) ≡ Ok (Numeral (negsuc n))
negative-read n h =
    let small : n < 2 ^ 63 = range-neg n h in
    let k : suc n < 2 ^ 64 = omega arith in
    let p : positive (decimal (suc n)) ≡ Some (suc n) =
    digits-positive (decimal (suc n)) (suc n) (digits_decimal all_digits (suc n) k) (decimal_nonempty (suc n) k)
    (first_decimal (suc n) (omega arith) k) (digits_value-decimal all_digits (suc n) k) in
    rw (p, h) refl

-- ---- words and names

pub order-read : (w : Cmd) → word (spelling w) ≡ Ok (Order w)
order-read words.Version = refl
order-read _ = refl

pub name-back : (n : Name) → IsName n → name_read (spelled n) ≡ Some n
name-back n h = spells-name_read (spelled n) n (spelled-plain n h).spells

pub spelled-read : (n : Name) → IsName n → word (spelled n) ≡ Ok (Quoted (spelled n))
spelled-read n h = rw (name-back n h) refl
