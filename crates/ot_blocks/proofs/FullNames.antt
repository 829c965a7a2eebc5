-- The bytes and the parts of full names, and of paths.
use Rattle.std.proofs.Common.{◌≡◌, ◌≢◌, ◌<◌, ◌≤◌, ◌+◌, ◌-◌, ℕ, zero, suc, List, [], ◌∷◌, ◌++◌}
use Rattle.std.proofs.Common.{length, take, drop, reverse, get_or, Bool, true, false, refl}
use Rattle.std.proofs.Common.{sym, ap, subst, ◌∙◌, arith, inl, inr, eqb, ltb, add-one, lit<}
use Rattle.std.specs.Prelude.{◌==◌, ◌&&◌, ◌||◌, not, slice_range}
use Rattle.std.specs.Char.{is_ascii_digit}
use Rattle.std.specs.List.{list_all, slice_split, onto_first, suffix_len}
use Rattle.std.specs.Str.{IsUtf8, IsAscii, IsCharBoundary}
use Rattle.std.proofs.Math.Seq.{take-append_seam, drop-append-add, drop-cons}
use Rattle.std.proofs.lemmas.Bool.{and_parts, and_from, eqb-true, ltb-true, ne_eqb}
use Rattle.std.proofs.lemmas.Bool.{cases_Bool, or_left, or_right, not-false, not_from_false}
use Rattle.std.proofs.lemmas.Bool.Decides.{nat_tests}
use Rattle.std.proofs.lemmas.List.{take-append-drop, length-append, length-drop, length-take}
use Rattle.std.proofs.lemmas.List.{length-reverse, get_or-reverse, get_or-append-add}
use Rattle.std.proofs.lemmas.List.Sums.{prefix_len_stops, suffix_len_is, suffix_len-le-length}
use Rattle.std.proofs.lemmas.Str.{IsAscii-append, IsUtf8-from_ascii, IsCharBoundary-start, IsCharBoundary-after_ascii}
use Rattle.ot_blocks.specs.Paths.{name_part, version_part, is_name_byte, is_name, is_digits}
use Rattle.ot_blocks.specs.Paths.{is_version, is_package, folder_of, IsFullName, OneFullName}

-- ---- bytes that pass a test

all_at : (p : ℕ → Bool) (bs : List ℕ) → list_all p bs ≡ true → (k d : ℕ) → k < length bs → p (get_or bs k d) ≡ true
all_at p [] e k d lt = absurd (omega (arith, lt))
all_at p (b ∷ bs) e zero d lt = (and_parts (p b) (list_all p bs) e).0
all_at p (b ∷ bs) e (suc k) d lt = all_at p bs (and_parts (p b) (list_all p bs) e).1 k d (omega (arith, lt))

pub ascii_from_all : (p : ℕ → Bool) → ((b : ℕ) → p b ≡ true → b < 128) → (bs : List ℕ) → list_all p bs ≡ true
    → IsAscii bs
ascii_from_all p low [] e k = lit< tt
ascii_from_all p low (b ∷ bs) e zero = low b (and_parts (p b) (list_all p bs) e).0
ascii_from_all p low (b ∷ bs) e (suc k) = ascii_from_all p low bs (and_parts (p b) (list_all p bs) e).1 k

name_byte_low : (b : ℕ) → is_name_byte b ≡ true → b < 128
name_byte_low b e = grind (arith, nat_tests)

-- a digit or a dot
abbrev is_version_byte : ℕ → Bool
is_version_byte b = is_ascii_digit b || (b == 46)

version_byte_low : (b : ℕ) → is_version_byte b ≡ true → b < 128
version_byte_low b e = grind (arith, nat_tests)

version_byte_plain : (b : ℕ) → is_version_byte b ≡ true → b ≢ 45
version_byte_plain b e = λ same. grind (arith, nat_tests)

-- ---- the bytes of a version

all_digits : (parts : List (List ℕ)) → list_all is_digits parts ≡ true → list_all (list_all is_ascii_digit) parts
    ≡ true
all_digits [] e = refl
all_digits (p ∷ ps) e =
    let parts = and_parts (is_digits p) (list_all is_digits ps) e in
    and_from (list_all is_ascii_digit p) (list_all (list_all is_ascii_digit) ps)
    (and_parts (ltb 0 (length p)) (list_all is_ascii_digit p) parts.0).1 (all_digits ps parts.1)

first_digit : (b : ℕ) (parts : List (List ℕ)) → list_all (list_all is_ascii_digit) (onto_first b parts) ≡ true
    → (is_ascii_digit b ≡ true) × (list_all (list_all is_ascii_digit) parts ≡ true)
first_digit b [] e = ((and_parts (is_ascii_digit b) true (and_parts (is_ascii_digit b && true) true e).0).0, refl)
first_digit b (p ∷ ps) e =
    let outer = and_parts (is_ascii_digit b && list_all is_ascii_digit p) (list_all (list_all is_ascii_digit) ps) e in
    let inner = and_parts (is_ascii_digit b) (list_all is_ascii_digit p) outer.0 in
    (inner.0, and_from (list_all is_ascii_digit p) (list_all (list_all is_ascii_digit) ps) inner.1 outer.1)

digits_and_dots : (bs : List ℕ) → list_all (list_all is_ascii_digit) (slice_split (λ b. b == 46) bs) ≡ true
    → list_all is_version_byte bs ≡ true
digits_and_dots [] e = refl
digits_and_dots (b ∷ bs) e = elim (cases_Bool (b == 46)) [
  | inl dot ↦
      let rest = rw dot at e in
      and_from (is_version_byte b) (list_all is_version_byte bs) (or_right (is_ascii_digit b) (b == 46) dot)
      (digits_and_dots bs rest)
  | inr other ↦
      let parts = first_digit b (slice_split (λ c. c == 46) bs) (rw other at e) in
      and_from (is_version_byte b) (list_all is_version_byte bs) (or_left (is_ascii_digit b) (b == 46) parts.0)
      (digits_and_dots bs parts.1)
]

version_bytes : (version : List ℕ) → is_version version ≡ true → list_all is_version_byte version ≡ true
version_bytes version e = digits_and_dots version (all_digits (slice_split (λ b. b == 46) version) e)

-- ---- the parts of a full name

-- none of the bytes behind the last one that is x is x
abbrev other_than : ℕ → ℕ → Bool
other_than x b = not (b == x)

last_is : (x : ℕ) (bs : List ℕ) (n : ℕ) → n ≡ length bs - suffix_len (other_than x) bs → 0 < n
    → get_or bs (n - 1) 0 ≡ x
last_is x bs n is some =
    let most = suffix_len-le-length (other_than x) bs in
    let within : suffix_len (other_than x) bs < length bs = omega (arith, is, some, most) in
    let stops = prefix_len_stops (other_than x) (reverse bs) 0 (omega (arith, within, length-reverse bs)) in
    let at : length bs - 1 - suffix_len (other_than x) bs ≡ n - 1 = omega (arith, is, within) in
    let here : get_or (reverse bs) (suffix_len (other_than x) bs) 0 ≡ get_or bs (n - 1) 0 =
    get_or-reverse bs (suffix_len (other_than x) bs) 0 within ∙ ap (λ k. get_or bs k 0) at in
    eqb-true (get_or bs (n - 1) 0) x (not-false (eqb (get_or bs (n - 1) 0) x) (ap (other_than x) (sym here) ∙ stops))

full_parts : (full : List ℕ) → is_name (name_part full) ≡ true → full ≡ name_part full ++ 45 ∷ version_part full
full_parts full named = parts (length full - suffix_len (other_than 45) full) refl where
  parts : (n : ℕ) → n ≡ length full - suffix_len (other_than 45) full → full ≡ take (n - 1) full ++ 45 ∷ drop n full
  parts n is =
      let some : 0 < length (name_part full) = ltb-true 0 (length (name_part full))
      (and_parts (ltb 0 (length (name_part full))) (list_all is_name_byte (name_part full)) named).0 in
      let more : 0 < n = omega (arith, some, is, length-take {A = ℕ}) in
      let one : suc (n - 1) ≡ n = omega (arith, more) in
      sym (take-append-drop (n - 1) full)
      ∙ ap (λ z. take (n - 1) full ++ z) (drop-cons full (n - 1) 0 (omega (arith, is, more)))
      ∙ ap (λ z. take (n - 1) full ++ z ∷ drop (suc (n - 1)) full) (last_is 45 full n is more)
      ∙ ap (λ k. take (n - 1) full ++ 45 ∷ drop k full) one

ascii_name : (full : List ℕ) → is_package full ≡ true → IsAscii (name_part full)
ascii_name full e =
    let named = (and_parts (is_name (name_part full)) (is_version (version_part full)) e).0 in
    ascii_from_all is_name_byte name_byte_low (name_part full)
    (and_parts (ltb 0 (length (name_part full))) (list_all is_name_byte (name_part full)) named).1

pub utf8_name : (full : List ℕ) → is_package full ≡ true → IsUtf8 (name_part full)
utf8_name full e = IsUtf8-from_ascii (name_part full) (ascii_name full e)

pub utf8_full : (full : List ℕ) → is_package full ≡ true → IsUtf8 full
utf8_full full e =
    let parts = and_parts (is_name (name_part full)) (is_version (version_part full)) e in
    let version : IsAscii (version_part full) = ascii_from_all is_version_byte version_byte_low (version_part full)
    (version_bytes (version_part full) parts.1) in
    IsUtf8-from_ascii full
    (subst IsAscii (sym (full_parts full parts.0))
    (IsAscii-append (name_part full) (45 ∷ version_part full) (ascii_name full e)
    (dashed (version_part full) version)))
  where
    dashed : (bs : List ℕ) → IsAscii bs → IsAscii (45 ∷ bs)
    dashed bs a zero = lit< tt
    dashed bs a (suc k) = a k

-- a version has no dash, so the dash before it is the last
dash_last : (name version : List ℕ) → is_version version ≡ true
    → length (name ++ 45 ∷ version) - suffix_len (other_than 45) (name ++ 45 ∷ version) ≡ length name + 1
dash_last name version e =
    let full = name ++ 45 ∷ version in
    let size : length full ≡ length name + suc (length version) = length-append name (45 ∷ version) in
    let is = suffix_len_is (other_than 45) full (length name + 1) 0 (omega (arith, size)) behind at in
    omega (arith, is, size)
  where
    behind : (k : ℕ) → length name + 1 ≤ k → k < length (name ++ 45 ∷ version)
        → other_than 45 (get_or (name ++ 45 ∷ version) k 0) ≡ true
    behind k from to = later (k - length name - 1) (omega (arith, from)) where
      later : (j : ℕ) → length name + suc j ≡ k → other_than 45 (get_or (name ++ 45 ∷ version) k 0) ≡ true
      later j is =
          let here : get_or (name ++ 45 ∷ version) k 0 ≡ get_or version j 0 =
          ap (λ i. get_or (name ++ 45 ∷ version) i 0) (sym is) ∙ get_or-append-add name (45 ∷ version) (suc j) 0 in
          let within : j < length version = omega (arith, is, to, length-append name (45 ∷ version)) in
          let plain = version_byte_plain (get_or version j 0)
          (all_at is_version_byte version (version_bytes version e) j 0 within) in
          ap (other_than 45) here
          ∙ not_from_false (eqb (get_or version j 0) 45) (ne_eqb (get_or version j 0) 45 plain)

    at : 0 < length name + 1 → other_than 45 (get_or (name ++ 45 ∷ version) (length name + 1 - 1) 0) ≡ false
    at some =
        let zero_more : length name + 1 - 1 ≡ length name + 0 = omega arith in
        ap (λ i. other_than 45 (get_or (name ++ 45 ∷ version) i 0)) zero_more
        ∙ ap (other_than 45) (get_or-append-add name (45 ∷ version) 0 0)

one_way : (name version : List ℕ) → is_version version ≡ true → (name_part (name ++ 45 ∷ version) ≡ name)
    × (version_part (name ++ 45 ∷ version) ≡ version)
one_way name version e =
    let less : length name + 1 - 1 ≡ length name = omega arith in (
      ap (λ n. take (n - 1) (name ++ 45 ∷ version)) (dash_last name version e)
          ∙ ap (λ n. take n (name ++ 45 ∷ version)) less ∙ take-append_seam name (45 ∷ version),
      ap (λ n. drop n (name ++ 45 ∷ version)) (dash_last name version e) ∙ drop-append-add name (45 ∷ version) 1,
    )

pub one_full_name : OneFullName
one_full_name full name version = (to, back) where
  to : IsFullName full name version → (is_package full ≡ true) × (name ≡ name_part full)
      × (version ≡ version_part full)
  to h =
      let own = one_way name version h.versioned in
      let first : name_part full ≡ name = ap name_part h.parts ∙ own.0 in
      let second : version_part full ≡ version = ap version_part h.parts ∙ own.1 in (
        and_from (is_name (name_part full)) (is_version (version_part full)) (ap is_name first ∙ h.named)
            (ap is_version second ∙ h.versioned),
        sym first,
        sym second,
      )

  back : (is_package full ≡ true) × (name ≡ name_part full) × (version ≡ version_part full)
      → IsFullName full name version
  back h =
      let tests = and_parts (is_name (name_part full)) (is_version (version_part full)) h.0 in
      record {
        parts = full_parts full tests.0 ∙ ap (λ z. z ++ 45 ∷ version_part full) (sym h.1)
            ∙ ap (λ z. name ++ 45 ∷ z) (sym h.2);
        named = ap is_name h.1 ∙ tests.0;
        versioned = ap is_version h.2 ∙ tests.1;
      }

-- ---- the folder of a path

pub folder_is : (path : List ℕ) (n : ℕ) → n ≡ length path - suffix_len (other_than 47) path
    → slice_range path 0 n ≡ folder_of path
folder_is path n is =
    ap (λ k. take k path) (omega (arith, is, length-drop (length path - suffix_len (other_than 47) path) path))

pub folder_boundary : (path : List ℕ) (n : ℕ) → IsUtf8 path → n ≤ length path → (0 < n → get_or path (n - 1) 0 ≡ 47)
    → IsCharBoundary path n
folder_boundary path zero utf8 within last = IsCharBoundary-start path utf8
folder_boundary path (suc n) utf8 within last =
    let at : get_or path n 0 ≡ 47 = ap (λ k. get_or path k 0) (omega arith) ∙ last (omega arith) in
    subst (IsCharBoundary path) (add-one n)
    (IsCharBoundary-after_ascii path n utf8 (omega (arith, within)) (omega (arith, at)))
