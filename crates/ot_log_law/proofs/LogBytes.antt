-- The bytes of tokens are read back as these tokens, one on each line.
use Rattle.std.specs.Prelude.{pos, codes, nat_lt}
use Rattle.std.specs.List.{AllByRecursion, list_all}
use Rattle.std.specs.Option.{option_map}
use Rattle.std.specs.Char.{is_ascii_digit}
use Rattle.std.specs.Str.Parse.{digits_value}
use Rattle.std.specs.Fmt.{decimal}
use Rattle.std.specs.Int.Digits.{digits_of}
use Rattle.std.proofs.Common.{◌≡◌, ◌≢◌, ℕ, zero, suc, ◌+◌, ◌<◌, ◌≤◌, ◌^◌, ◌==◌, true, false}
use Rattle.std.proofs.Common.{List, [], ◌∷◌, map, length, get_or, None, Some, refl, sym, ap}
use Rattle.std.proofs.Common.{subst, ◌∙◌, inl, inr, arith, append_assoc, length-append}
use Rattle.std.proofs.lemmas.Fmt.{digits_decimal, digits_value-decimal}
use Rattle.std.proofs.lemmas.Fmt.{first_decimal, decimal_nonempty, decimal_digit}
use Rattle.std.proofs.lemmas.Int.Digits.{length-digits_of_step}
use Rattle.std.proofs.lemmas.Bool.Decides.{nat_tests, eqb_tells}
use Rattle.std.proofs.lemmas.List.{length-map}
use Rattle.std.proofs.lemmas.Bool.{and_parts}
use Rattle.ot_logic.specs.Names.{Name, spelled}
use Rattle.ot_lines.specs.Pieces.{pieces}
use Rattle.ot_logic.specs.Naming.{names}
use Rattle.ot_scan.specs.Lines.{lines_after, lines_of, limit_fault}
use Rattle.ot_scan.specs.Words.{is_in_range}
use Rattle.ot_log_format.specs.declared.word.RecordWord.{RecordWord}
use Rattle.ot_log_format.specs.declared.word.RecordWord.TheVariants as words
use Rattle.ot_log_format.specs.Tokens.{Token, Number, Named, Word, NoMore, Then, spelling}
use Rattle.ot_log_format.specs.Steps.{log_depth}
use Rattle.ot_text.specs.Texts.{number_text}
use Rattle.ot_text.proofs.Decimals.{number-decimal}
use Rattle.ot_verify.specs.Reading.{token, tokens_of}
use Rattle.ot_machine.specs.Writable.{IsWritable}
use Rattle.ot_article.proofs.LineTexts.{all_digits, digit-range, in-range, name-back}
use Rattle.ot_article.proofs.Bytes.{pieces-whole, IsLineText, tidy-line, name-tidy, number-text, unbroken-by, within}
use Rattle.ot_log_records.specs.Bytes.{token_text, token_bytes, bytes_of}
use Rattle.ot_log_records.proofs.Reading.{lined}
use Rattle.ot_log_law.proofs.Told.{IsWord, IsTokenTo, AreTokensTo}

-- ---- the text of a token is that of a line, and is read as the token

pub record IsTokenText (t : Token Name) : Type 0 where
  pub text : IsLineText (token_text t)
  pub read : token (token_text t) ≡ Some t

positive-token : (d : ℕ) (ds : List ℕ) (n : ℕ) → list_all is_ascii_digit (d ∷ ds) ≡ true → 48 < d
    → digits_value 10 (d ∷ ds) ≡ n
    → n < 2 ^ 63 → token (d ∷ ds) ≡ Some (Number n)
positive-token d ds n all low value small =
    let dig : is_ascii_digit d ≡ true = (and_parts (is_ascii_digit d) (list_all is_ascii_digit ds) all).0 in
    let rest : list_all is_ascii_digit ds ≡ true = (and_parts (is_ascii_digit d) (list_all is_ascii_digit ds) all).1 in
    let range = digit-range d dig in
    let high : d ≤ 57 = range.1 in
    let quote : (d == 34) ≡ false = grind (arith, nat_tests) in
    let minus : (d == 45) ≡ false = grind (arith, nat_tests) in
    let zero_digit : (d == 48) ≡ false = grind (arith, nat_tests) in
    let more : nat_lt 48 d ≡ true = grind (arith, nat_tests) in
    let fits : is_in_range (pos n) ≡ true = in-range n small in
    rw (quote, minus, dig, zero_digit, more, rest, value, fits) refl

digits-token : (ds : List ℕ) (n : ℕ) → list_all is_ascii_digit ds ≡ true → 0 < length ds
    → (0 < n → 48 < get_or ds 0 0)
    → (n ≡ 0 → ds ≡ 48 ∷ []) → digits_value 10 ds ≡ n → n < 2 ^ 63 → token ds ≡ Some (Number n)
digits-token [] n all some first none value small = absurd (omega arith)
digits-token (d ∷ ds) n all some first none value small = elim (eqb_tells n 0) [
  | inl e ↦ ap token (none e.1) ∙ ap (λ z. Some (Number z)) (sym e.1)
  | inr e ↦ (let f : n ≢ 0 = e.1 in let g : 0 < n = omega arith in positive-token d ds n all (first g) value small)
]

decimal-token : (n : ℕ) → n < 2 ^ 63 → token (decimal n) ≡ Some (Number n)
decimal-token n h =
    let k : n < 2 ^ 64 = omega arith in
    digits-token (decimal n) n (digits_decimal all_digits n k) (decimal_nonempty n k) (λ l. first_decimal n l k)
    (λ e. ap decimal e ∙ decimal_digit 0 (omega arith)) (digits_value-decimal all_digits n k) h

number-is : (n : ℕ) → n < 2 ^ 63 → IsTokenText (Number n)
number-is n h =
    let e : decimal n ≡ number_text n = sym (number-decimal n (omega (arith, h))) in
    record {
      text = subst IsLineText e (number-text n h);
      read = subst (λ z. token z ≡ Some (Number n)) e
          (decimal-token n h);
    }

name-is : (n : Name) → IsWritable n → IsTokenText (Named n)
name-is n h = record {
  text = tidy-line (spelled n) (name-tidy n) h.line.one h.line.short;
  read = ap (option_map (λ m. Named m)) (name-back n h.named);
}

word-text : (w : RecordWord) → IsLineText (spelling w)
word-text words.TyVar = record {
  stays = refl;
  said = refl;
  unbroken = unbroken-by (spelling words.TyVar) refl;
  short = omega arith;
}
word-text w = record { stays = refl; said = refl; unbroken = unbroken-by (spelling w) refl; short = omega arith }

word-read : (w : RecordWord) → token (spelling w) ≡ Some (Word (spelling w))
word-read words.TyVar = refl
word-read _ = refl

some-letters : (w : RecordWord) → 1 ≤ length (spelling w)
some-letters words.TyVar = omega arith
some-letters _ = omega arith

said-is : (text : List ℕ) → IsWord text → IsTokenText (Word text)
said-is text (inl (w, e)) =
    subst (λ z. IsTokenText (Word z)) (sym e) (record { text = word-text w; read = word-read w })
said-is text (inr e) =
    subst (λ z. IsTokenText (Word z)) (sym e) (record {
      text = record { stays = refl; said = refl; unbroken = unbroken-by (codes "otlog") refl; short = omega arith };
      read = refl;
    })

abbrev pub AreTexts : List (Token Name) → Type 0
AreTexts = AllByRecursion IsTokenText

tokens-texts : (n : ℕ) → n < 2 ^ 63 → (ts : List (Token Name)) → AreTokensTo IsWritable n ts → AreTexts ts
tokens-texts n b [] h = tt
tokens-texts n b (t ∷ ts) h = (one t h.0, tokens-texts n b ts h.1)
  where
    one : (t : Token Name) → IsTokenTo IsWritable n t → IsTokenText t
    one (Number k) g = number-is k (omega (arith, b, g))
    one (Named m) g = name-is m g
    one (Word text) g = said-is text g

-- ---- each token has a byte and a newline

number-long : (k : ℕ) → 1 ≤ length (number_text k)
number-long zero = omega arith
number-long (suc k) =
    let e = length-digits_of_step 10 (suc k) (omega arith) (omega arith) in
    let m = length-map (digits_of 10 (suc k)) (λ d. 48 + d) in omega (arith, e, m)

token-long : (n : ℕ) (t : Token Name) → IsTokenTo IsWritable n t → 1 ≤ length (token_text t)
token-long n (Number k) h = number-long k
token-long n (Named m) h = omega arith
token-long n (Word text) (inl (w, e)) = subst (λ z. 1 ≤ length z) (sym e) (some-letters w)
token-long n (Word text) (inr e) = subst (λ z. 1 ≤ length z) (sym e) (omega arith)

bytes-long : (n : ℕ) (ts : List (Token Name)) → AreTokensTo IsWritable n ts
    → length ts + length ts ≤ length (bytes_of ts)
bytes-long n [] h = omega arith
bytes-long n (t ∷ ts) h =
    let a = token-long n t h.0 in
    let b = bytes-long n ts h.1 in
    let c = length-append (token_bytes t) (bytes_of ts) in
    let d = length-append (token_text t) (10 ∷ []) in
    omega (arith, a, b, c, d)

-- ---- the lines

pieces-tokens : (ts : List (Token Name)) → AreTexts ts → pieces (bytes_of ts) ≡ map token_bytes ts
pieces-tokens [] h = refl
pieces-tokens (t ∷ ts) h =
    ap pieces (append_assoc (token_text t) (10 ∷ []) (bytes_of ts))
    ∙ pieces-whole (token_text t) (bytes_of ts) h.0.text.unbroken
    ∙ ap (λ ps. token_bytes t ∷ ps) (pieces-tokens ts h.1)

next : (n : ℕ) → n + 1 ≡ suc n
next n = omega arith

lines-read : (ts : List (Token Name)) (max before number : ℕ) → AreTexts ts → before + length (bytes_of ts) ≤ max
    → tokens_of (lines_after max before number (map token_bytes ts)) ≡ lined names number ts NoMore
lines-read [] max before number h fits = refl
lines-read (t ∷ ts) max before number h fits =
    let long = length-append (token_bytes t) (bytes_of ts) in
    let here : limit_fault max before (token_bytes t) ≡ None =
    within max before (token_text t) h.0.text.short (omega arith) in
    let rest = lines-read ts max (before + length (token_bytes t)) (number + 1) h.1 (omega arith) in
    rw (here, h.0.text.stays, h.0.text.said, h.0.read)
    (ap (Then (number + 1) t) rest ∙ ap (λ k. Then k t (lined names k ts NoMore)) (next number))

-- the bytes of a log whose tokens can be said are read back
pub bytes-read : (ts : List (Token Name)) (max : ℕ) → AreTokensTo IsWritable (log_depth + length ts) ts
    → length (bytes_of ts) ≤ max → max < 2 ^ 63 → tokens_of (lines_of max (bytes_of ts)) ≡ lined names 0 ts NoMore
bytes-read ts max h fits small =
    let long = bytes-long (log_depth + length ts) ts h in
    let low : log_depth + length ts < 2 ^ 63 = omega (arith, long, fits, small) in
    let texts = tokens-texts (log_depth + length ts) low ts h in
    ap (λ ps. tokens_of (lines_after max 0 0 ps)) (pieces-tokens ts texts)
    ∙ lines-read ts max 0 0 texts (omega (arith, fits))
