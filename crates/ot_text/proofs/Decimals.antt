-- The digits are std's.
use Rattle.std.specs.Prelude.{◌≡◌, ℕ, zero, suc, ◌<◌, ◌^◌, decimal}
use Rattle.std.proofs.Common.{sym, arith}
use Rattle.std.proofs.lemmas.Fmt.{decimal_digit, decimal-digits_of}
use Rattle.ot_text.specs.Texts.{number_text}

pub number-decimal : (n : ℕ) → n < 2 ^ 64 → number_text n ≡ decimal n
number-decimal zero h = sym (decimal_digit 0 (omega arith))
number-decimal (suc n) h = sym (decimal-digits_of (suc n) (omega arith) h)
