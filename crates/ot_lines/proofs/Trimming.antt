-- Laws of trimming.
use Rattle.std.proofs.Common.{◌≡◌, ◌≢◌, ◌<◌, ◌≤◌, ◌+◌, ◌-◌, inl, inr, ℕ, zero, suc, List}
use Rattle.std.proofs.Common.{[], ◌∷◌, ◌++◌, length, take, get_or, reverse, Bool, true}
use Rattle.std.proofs.Common.{false, ◌==◌, ◌||◌, if◌then◌else◌, sym, ap, ◌∙◌, refl, arith}
use Rattle.std.proofs.lemmas.Bool.Decides.{eqb_tells}
use Rattle.std.proofs.lemmas.List.{take_all, take_more, reverse-append, reverse-reverse}
use Rattle.ot_lines.specs.Pieces.{without_last, is_blank, is_skipped, text_of, trim_front, trim_back, IsBare}

-- ---- the last byte is this one, or another one
last_is : (x : ℕ) (xs : List ℕ) (n : ℕ) → length xs ≡ suc n → get_or xs n 0 ≡ x → without_last x xs ≡ take n xs
last_is x [] n e h = absurd (omega (arith, e))
last_is x (a ∷ []) zero e h = elim (eqb_tells a x) [ inl q ↦ rw q.0 refl | inr q ↦ absurd (q.1 h) ]
last_is x (a ∷ []) (suc n) e h = absurd (omega (arith, e))
last_is x (a ∷ c ∷ cs) zero e h = absurd (omega (arith, e))
last_is x (a ∷ c ∷ cs) (suc n) e h = ap (λ z. a ∷ z) (last_is x (c ∷ cs) n (omega (arith, e)) h)

last_other : (x : ℕ) (xs : List ℕ) (n : ℕ) → length xs ≡ suc n → get_or xs n 0 ≢ x → without_last x xs ≡ xs
last_other x [] n e h = refl
last_other x (a ∷ []) zero e h = elim (eqb_tells a x) [ inl q ↦ absurd (h q.1) | inr q ↦ rw q.0 refl ]
last_other x (a ∷ []) (suc n) e h = absurd (omega (arith, e))
last_other x (a ∷ c ∷ cs) zero e h = absurd (omega (arith, e))
last_other x (a ∷ c ∷ cs) (suc n) e h = ap (λ z. a ∷ z) (last_other x (c ∷ cs) n (omega (arith, e)) h)

-- the same, in the code's indices
pub cut_last : (x : ℕ) (xs : List ℕ) → 0 < length xs → get_or xs (length xs - 1) 0 ≡ x → take (length xs - 1) xs
    ≡ without_last x xs
cut_last x xs some h = sym (last_is x xs (length xs - 1) (omega (arith, some)) h)

pub kept_last : (x : ℕ) (xs : List ℕ) → (0 < length xs → get_or xs (length xs - 1) 0 ≢ x) → xs ≡ without_last x xs
kept_last x [] h = refl
kept_last x (b ∷ bs) h = sym (last_other x (b ∷ bs) (length (b ∷ bs) - 1) (omega arith) (h (omega arith)))

-- at most one byte goes
pub length-without_last : (x : ℕ) (xs : List ℕ) → length xs ≤ length (without_last x xs) + 1
length-without_last x [] = omega arith
length-without_last x (b ∷ []) = omega arith
length-without_last x (b ∷ c ∷ cs) = omega (arith, length-without_last x (c ∷ cs))

pub length-without_last_le : (x : ℕ) (xs : List ℕ) → length (without_last x xs) ≤ length xs
length-without_last_le x [] = omega arith
length-without_last_le x (b ∷ []) =
    elim (eqb_tells b x) [ inl q ↦ rw q.0 (omega arith) | inr q ↦ rw q.0 (omega arith) ]
length-without_last_le x (b ∷ c ∷ cs) = omega (arith, length-without_last_le x (c ∷ cs))

-- ---- a blank at the end goes, another byte stays
back_blank : (xs : List ℕ) (x : ℕ) → is_blank x ≡ true → trim_back (xs ++ x ∷ []) ≡ trim_back xs
back_blank xs x h = ap (λ z. reverse (trim_front z)) (reverse-append xs (x ∷ [])) ∙ rw h refl

back_kept : (xs : List ℕ) (x : ℕ) → is_blank x ≡ false → trim_back (xs ++ x ∷ []) ≡ xs ++ x ∷ []
back_kept xs x h =
    ap (λ z. reverse (trim_front z)) (reverse-append xs (x ∷ []))
    ∙ rw h (ap reverse (sym (reverse-append xs (x ∷ []))) ∙ reverse-reverse (xs ++ x ∷ []))

-- the same, in the code's indices
last_byte : (xs : List ℕ) (n : ℕ) → 0 < n → n ≤ length xs → take n xs ≡ take (n - 1) xs ++ get_or xs (n - 1) 0 ∷ []
last_byte xs n some le =
    let one : n ≡ n - 1 + 1 = omega arith in
    ap (λ i. take i xs) one ∙ take_more xs (n - 1) 0 (omega arith)

pub back_step : (xs : List ℕ) (n : ℕ) → 0 < n → n ≤ length xs → true ≡ is_blank (get_or xs (n - 1) 0)
    → trim_back (take (n - 1) xs) ≡ trim_back (take n xs)
back_step xs n some le h =
    sym (ap trim_back (last_byte xs n some le) ∙ back_blank (take (n - 1) xs) (get_or xs (n - 1) 0) (sym h))

pub back_end : (xs : List ℕ) (n : ℕ) → n ≤ length xs → (0 < n → false ≡ is_blank (get_or xs (n - 1) 0))
    → take n xs ≡ trim_back (take n xs)
back_end xs zero le h = refl
back_end xs (suc n) le h =
    let some : 0 < suc n = omega arith in
    let e = last_byte xs (suc n) some le in
    e ∙ sym (back_kept (take (suc n - 1) xs) (get_or xs (suc n - 1) 0) (sym (h some))) ∙ sym (ap trim_back e)

-- ---- a byte at the front that is no blank and no end of a line stays there
first-without_last : (x b : ℕ) (bs : List ℕ) → b ≢ x → (rest : List ℕ) × (without_last x (b ∷ bs) ≡ b ∷ rest)
first-without_last x b [] other = elim (eqb_tells b x) [ inl q ↦ absurd (other q.1) | inr q ↦ ([], rw q.0 refl) ]
first-without_last x b (c ∷ cs) other = (without_last x (c ∷ cs), refl)

last-trim_front : (b : ℕ) → is_blank b ≡ false → (xs : List ℕ)
    → (rest : List ℕ) × (trim_front (xs ++ b ∷ []) ≡ rest ++ b ∷ [])
last-trim_front b plain [] = ([], rw plain refl)
last-trim_front b plain (x ∷ xs) = by (is_blank x) (last-trim_front b plain xs)
  where
    by : (blank : Bool) → ((rest : List ℕ) × (trim_front (xs ++ b ∷ []) ≡ rest ++ b ∷ []))
        → (rest : List ℕ) × ((if blank then trim_front (xs ++ b ∷ []) else x ∷ (xs ++ b ∷ [])) ≡ rest ++ b ∷ [])
    by true found = found
    by false found = (x ∷ xs, refl)

first-trim_back : (b : ℕ) (bs : List ℕ) → is_blank b ≡ false → (rest : List ℕ) × (trim_back (b ∷ bs) ≡ b ∷ rest)
first-trim_back b bs plain =
    let (rest, e) = last-trim_front b plain (reverse bs) in (
      reverse rest,
      ap (λ z. reverse (trim_front z)) (reverse-append (b ∷ []) bs) ∙ ap reverse e
          ∙ reverse-append rest (b ∷ []),
    )

first-text : (b : ℕ) (bs : List ℕ) → b ≢ 10 → b ≢ 13 → is_blank b ≡ false
    → (rest : List ℕ) × (text_of (b ∷ bs) ≡ b ∷ rest)
first-text b bs newline return plain =
    let (line, e) = first-without_last 10 b bs newline in
    let (front, f) = first-without_last 13 b line return in
    let (rest, g) = first-trim_back b front plain in
    (rest, ap (λ z. trim_back (trim_front (without_last 13 z))) e ∙ ap (λ z. trim_back (trim_front z)) f ∙ rw plain g)

not_equal : (b x : ℕ) → x < b → (b == x) ≡ false
not_equal b x above = elim (eqb_tells b x) [ inl q ↦ absurd (omega (arith, q.1, above)) | inr q ↦ q.0 ]

-- ---- a line that begins and ends with bytes above a space

above_blank : (b : ℕ) → 32 < b → is_blank b ≡ false
above_blank b above = ap (λ z. z || (b == 9)) (not_equal b 32 above) ∙ not_equal b 9 (omega (arith, above))

front_bare : (line : List ℕ) → IsBare line → trim_front line ≡ line
front_bare [] bare = refl
front_bare (b ∷ bs) bare = rw (above_blank b bare.first) refl

back_bare : (line : List ℕ) → IsBare line → trim_back line ≡ line
back_bare line bare =
    let whole = take_all (length line) line (omega arith) in
    let kept = sym (above_blank (get_or line (length line - 1) 0) bare.last) in
    ap trim_back (sym whole) ∙ sym (back_end line (length line) (omega arith) (λ some. kept)) ∙ whole

pub bare_text : (piece : List ℕ) → 0 < length piece → get_or piece (length piece - 1) 0 ≡ 10
    → IsBare (take (length piece - 1) piece) → take (length piece - 1) piece ≡ text_of piece
bare_text piece some newline bare =
    let line = take (length piece - 1) piece in
    let cut : line ≡ without_last 10 piece = cut_last 10 piece some newline in
    let kept : line ≡ without_last 13 line = kept_last 13 line (λ _ e. omega (arith, e, bare.last)) in
    sym (
    ap (λ z. trim_back (trim_front (without_last 13 z))) (sym cut)
    ∙ ap (λ z. trim_back (trim_front z)) (sym kept)
    ∙ ap trim_back (front_bare line bare)
    ∙ back_bare line bare)

pub above_passes : (piece : List ℕ) → 1 ≤ length piece → 35 < get_or piece 0 0 → false ≡ is_skipped (text_of piece)
above_passes [] some above = absurd (omega (arith, some))
above_passes (b ∷ bs) some above =
    let plain : is_blank b ≡ false = ap (λ z. z || (b == 9)) (not_equal b 32 (omega arith))
    ∙ not_equal b 9 (omega arith) in
    let (rest, e) = first-text b bs (λ q. omega (arith, q)) (λ q. omega (arith, q)) plain in
    sym (ap is_skipped e ∙ not_equal b 35 above)
