-- The test of a path's text.
use Rattle.std.proofs.Common.{◌≡◌, ◌<◌, ◌+◌, ◌-◌, ℕ, suc, List, [], ◌∷◌, ◌++◌, length, take, Bool, true}
use Rattle.std.proofs.Common.{false, ◌==◌, ◌&&◌, refl, ap, ◌∙◌, inl, inr, arith, Some, None, length-append}
use Rattle.std.specs.Prelude.{nat_lt, not, position, cond}
use Rattle.std.specs.List.{prefix_len}
use Rattle.std.specs.Str.{is_utf8}
use Rattle.std.proofs.lemmas.Bool.Decides.{eqb_tells}
use Rattle.std.proofs.lemmas.List.{take_at, length-take-le, nil_from_length}
use Rattle.std.proofs.lemmas.Str.{is_utf8-from_IsUtf8, IsUtf8-from_is_utf8}
use Rattle.std.proofs.lemmas.Bool.{and_parts}
use Rattle.ot_logic.specs.Lists.{IsMember}
use Rattle.ot_theory.specs.Values.{is_path, is_quoted_rest, IsPath, TellsPaths}

-- how many bytes stand before the first quote
abbrev plain_len : List ℕ → ℕ
plain_len bs = prefix_len (λ x. not (x == 34)) bs

one_step : (n : ℕ) → 1 + n ≡ suc n
one_step n = omega arith

plain_before : (bs : List ℕ) → ¬ (IsMember 34 (take (plain_len bs) bs))
plain_before [] = λ m. m
plain_before (b ∷ bs) = elim (eqb_tells b 34) [
  | inl q ↦ rw q.0 (λ m. m)
  | inr q ↦ rw (q.0, one_step (plain_len bs)) (λ m. elim m [ inl e ↦ q.1 e | inr k ↦ plain_before bs k ])
]

quote_at_end : (bs : List ℕ) → plain_len bs < length bs → plain_len bs ≡ length bs - 1 → bs ≡ take (plain_len bs) bs
    ++ 34 ∷ []
quote_at_end [] lt e = absurd (omega (arith, lt))
quote_at_end (b ∷ bs) lt e = elim (eqb_tells b 34) [
  | inl q ↦
      let zero_len : plain_len (b ∷ bs) ≡ 0 = rw q.0 refl in
      let none : bs ≡ [] = nil_from_length bs (omega (arith, e, zero_len)) in
      rw q.0 (ap (λ z. z ∷ bs) q.1 ∙ ap (λ z. 34 ∷ z) none)
  | inr q ↦
      let more : plain_len (b ∷ bs) ≡ suc (plain_len bs) = rw q.0 (one_step (plain_len bs)) in
      rw more (ap (λ z. b ∷ z) (quote_at_end bs (omega (arith, lt, more)) (omega (arith, e, more, lt))))
]

-- the first quote is where it is
len_plain : (inner rest : List ℕ) → ¬ (IsMember 34 inner) → plain_len (inner ++ 34 ∷ rest) ≡ length inner
len_plain [] rest none = refl
len_plain (b ∷ bs) rest none = elim (eqb_tells b 34) [
  | inl q ↦ absurd (none (inl q.1))
  | inr q ↦ rw (q.0, one_step (plain_len (bs ++ 34 ∷ rest))) (ap suc (len_plain bs rest (λ m. none (inr m))))
]

path_rest : (bs : List ℕ) → is_quoted_rest bs (position (λ x. x == 34) bs) ≡ true → IsPath (34 ∷ bs)
path_rest bs e = by_test (nat_lt (plain_len bs) (length bs)) refl e where
  by_test : (t : Bool) → nat_lt (plain_len bs) (length bs) ≡ t → is_quoted_rest bs (cond t (Some (plain_len bs)) None)
      ≡ true → IsPath (34 ∷ bs)
  by_test false is e = cc
  by_test true is e =
      let both = and_parts (nat_lt 0 (plain_len bs) && (plain_len bs == length bs - 1))
      (is_utf8 (take (plain_len bs) bs)) e in
      let place = and_parts (nat_lt 0 (plain_len bs)) (plain_len bs == length bs - 1) both.0 in
      let lt : plain_len bs < length bs = grind (arith, is) in
      let last : plain_len bs ≡ length bs - 1 = grind (arith, place.1) in
      let some : 0 < plain_len bs = grind (arith, place.0) in
      record {
        inner = take (plain_len bs) bs;
        some = omega (arith, length-take-le (plain_len bs) bs (omega (arith, lt)), some);
        utf8 = IsUtf8-from_is_utf8 (take (plain_len bs) bs) both.1;
        plain = plain_before bs;
        text = ap (λ z. 34 ∷ z) (quote_at_end bs lt last);
      }

path_is : (value : List ℕ) → is_path value ≡ true → IsPath value
path_is [] e = cc
path_is (b ∷ bs) e = elim (eqb_tells b 34) [
  | inl q ↦ rw q.1 (path_rest bs (rw q.0 at e))
  | inr q ↦ absurd (false_true (rw q.0 at e))
] where
  false_true : false ≡ true → ⊥
  false_true h = cc

is_path_from : (value : List ℕ) → IsPath value → is_path value ≡ true
is_path_from value p =
    let rest = p.inner ++ 34 ∷ [] in
    let len : plain_len rest ≡ length p.inner = len_plain p.inner [] p.plain in
    let whole : length rest ≡ length p.inner + 1 = length-append p.inner (34 ∷ []) in
    let front : take (length p.inner) rest ≡ p.inner = take_at p.inner (34 ∷ []) (length p.inner) refl in
    let inside : nat_lt (length p.inner) (length p.inner + 1) ≡ true = grind arith in
    let filled : nat_lt 0 (length p.inner) ≡ true = grind (arith, p.some) in
    let last : (length p.inner == length p.inner + 1 - 1) ≡ true = grind arith in
    let utf8 : is_utf8 p.inner ≡ true = is_utf8-from_IsUtf8 p.inner p.utf8 in
    ap is_path p.text ∙ rw (len, whole, inside, front, filled, whole, last, utf8) refl

pub tells_paths : TellsPaths
tells_paths value = (path_is value, is_path_from value)
