-- Laws of digits, one by one.
use Rattle.std.proofs.Common.{◌≡◌, ◌≤◌, ◌<◌, ◌+◌, ◌-◌, ◌*◌, ◌^◌, ℕ, List, length, take, get_or, min, true, arith}
use Rattle.std.proofs.Common.{ap, ◌∙◌}
use Rattle.std.specs.Char.{is_ascii_digit, digit_value}
use Rattle.std.specs.List.{list_all}
use Rattle.std.specs.Str.Parse.{digits_value}
use Rattle.std.proofs.Math.Nat.{pow-suc, pow-le-pow_right}
use Rattle.std.proofs.lemmas.Bool.{and_from}
use Rattle.std.proofs.lemmas.Bool.Decides.{nat_tests}
use Rattle.std.proofs.lemmas.Int.Digits.{digits_value_more}
use Rattle.std.proofs.lemmas.List.Folds.{list_all_more}

digit_is : (d : ℕ) → is_ascii_digit d ≡ true → digit_value d ≡ d - 48
digit_is d h = grind (arith, nat_tests)

digit_small : (d : ℕ) → is_ascii_digit d ≡ true → d - 48 ≤ 9
digit_small d h = grind (arith, nat_tests)

-- one digit more, where sums and products stop at m
capped : (v w n m d : ℕ) → v ≡ min w m → n ≡ min (min (v * 10) m + d) m → n ≡ min (w * 10 + d) m
capped v w n m d e f = omega arith

pub digits_step : (ds : List ℕ) (i v n m : ℕ) → i < length ds → is_ascii_digit (get_or ds i 0) ≡ true
    → v ≡ min (digits_value 10 (take i ds)) m → n ≡ min (min (v * 10) m + (get_or ds i 0 - 48)) m
    → n ≡ min (digits_value 10 (take (i + 1) ds)) m
digits_step ds i v n m lt digit e f =
    rw (digits_value_more 10 ds i lt, digit_is (get_or ds i 0) digit)
    (capped v (digits_value 10 (take i ds)) n m (get_or ds i 0 - 48) e f)

-- digits so far, and one more
pub digits_on : (ds : List ℕ) (i : ℕ) → i < length ds → list_all is_ascii_digit (take i ds) ≡ true
    → is_ascii_digit (get_or ds i 0) ≡ true → list_all is_ascii_digit (take (i + 1) ds) ≡ true
digits_on ds i lt all digit =
    list_all_more is_ascii_digit ds i 0 lt
    ∙ and_from (list_all is_ascii_digit (take i ds)) (is_ascii_digit (get_or ds i 0)) all digit

-- 19 digits stay below 2 ^ 64
pub digit_fits : (i v d : ℕ) → i < 19 → v < 10 ^ i → is_ascii_digit d ≡ true → v * 10 + (d - 48) < 10 ^ 19
digit_fits i v d few small digit =
    let below : i ≤ 18 = omega (arith, few) in
    let most : 10 ^ i ≤ 10 ^ 18 = pow-le-pow_right (omega arith) below in
    omega (arith, most, small, digit_small d digit)

pub digit_below : (i v d : ℕ) → v < 10 ^ i → is_ascii_digit d ≡ true → v * 10 + (d - 48) < 10 ^ (i + 1)
digit_below i v d small digit =
    let next : 10 ^ (i + 1) ≡ 10 ^ i * 10 = ap (λ n. 10 ^ n) (omega arith) ∙ pow-suc 10 i in
    omega (arith, next, small, digit_small d digit)
