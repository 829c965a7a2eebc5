-- A trimmed piece is a part of it, and holds no newline.
use Rattle.std.proofs.Common.{◌≡◌, ◌+◌, ℕ, List, [], ◌∷◌, ◌++◌, Bool, true, false}
use Rattle.std.proofs.Common.{◌==◌, refl, sym, ap, ◌∙◌, arith, inl, inr, append_assoc}
use Rattle.std.specs.Prelude.{◌⊎◌, reverse, cond}
use Rattle.std.proofs.lemmas.Bool.Decides.{eqb_tells}
use Rattle.std.proofs.lemmas.List.Sums.{sum_by-append}
use Rattle.std.proofs.lemmas.List.{reverse-append, reverse-reverse}
use Rattle.ot_lines.specs.Pieces.{IsWhole, IsOpen, text_of, is_blank, without_last, trim_front, trim_back}
use Rattle.ot_logic.specs.Lists.{IsMember}
use Rattle.ot_theory.specs.Places.{newlines}

-- ---- newlines

pub newlines-append : (xs ys : List ℕ) → newlines (xs ++ ys) ≡ newlines xs + newlines ys
newlines-append xs ys = sum_by-append (λ b. cond (b == 10) 1 0) xs ys

no_newline : (xs : List ℕ) → ¬ (IsMember 10 xs) → newlines xs ≡ 0
no_newline [] n = refl
no_newline (b ∷ bs) n = elim (eqb_tells b 10) [
  | inl q ↦ absurd (n (inl q.1))
  | inr q ↦ rw q.0 (omega (arith, no_newline bs (λ m. n (inr m))))
]

pub newline_free : (xs : List ℕ) → newlines xs ≡ 0 → ¬ (IsMember 10 xs)
newline_free [] e = λ m. m
newline_free (b ∷ bs) e = by_byte (eqb_tells b 10) (newline_free bs) where
  total : newlines (b ∷ bs) ≡ newlines (b ∷ []) + newlines bs
  total = newlines-append (b ∷ []) bs

  by_byte : ((b == 10) ≡ true × b ≡ 10) ⊎ ((b == 10) ≡ false × ¬ (b ≡ 10)) → (newlines bs ≡ 0 → ¬ (IsMember 10 bs))
      → ¬ (IsMember 10 (b ∷ bs))
  by_byte (inl q) rest = let one : newlines (b ∷ []) ≡ 1 = rw q.0 refl in absurd (omega (arith, total, one, e))
  by_byte (inr q) rest = λ m. elim m [ inl is ↦ q.1 is | inr k ↦ rest (omega (arith, total, e)) k ]

pub one_newline : (piece : List ℕ) → IsWhole piece → newlines piece ≡ 1
one_newline piece w = ap newlines w.is ∙ newlines-append w.front (10 ∷ [])
    ∙ ap (λ n. n + 1) (no_newline w.front w.none)

-- ---- what is left is a front, an end, or a front

front_kept : (x : ℕ) (xs : List ℕ) → (cut : List ℕ) × (xs ≡ without_last x xs ++ cut)
front_kept x [] = ([], refl)
front_kept x (b ∷ []) = elim (eqb_tells b x) [ inl e ↦ (b ∷ [], rw e.0 refl) | inr e ↦ ([], rw e.0 refl) ]
front_kept x (b ∷ c ∷ bs) = let h = front_kept x (c ∷ bs) in (h.0, ap (λ z. b ∷ z) h.1)

pub end_kept : (xs : List ℕ) → (cut : List ℕ) × (xs ≡ cut ++ trim_front xs)
end_kept [] = ([], refl)
end_kept (b ∷ bs) = by_blank b bs (is_blank b) refl (end_kept bs) where
  by_blank : (b : ℕ) (bs : List ℕ) (t : Bool) → is_blank b ≡ t → (cut : List ℕ) × (bs ≡ cut ++ trim_front bs)
      → (cut : List ℕ) × (b ∷ bs ≡ cut ++ trim_front (b ∷ bs))
  by_blank b bs true e ih = (b ∷ ih.0, rw e (ap (λ z. b ∷ z) ih.1))
  by_blank b bs false e ih = ([], rw e refl)

back_kept : (xs : List ℕ) → (cut : List ℕ) × (xs ≡ trim_back xs ++ cut)
back_kept xs =
    let h = end_kept (reverse xs) in
    (reverse h.0, sym (reverse-reverse xs) ∙ ap reverse h.1 ∙ reverse-append h.0 (trim_front (reverse xs)))

-- ---- the trimmed text in its piece

pub record TextIn (piece : List ℕ) : Type 0 where
  pub front : List ℕ
  pub back : List ℕ
  pub is : piece ≡ front ++ (text_of piece ++ back)
  pub front_plain : newlines front ≡ 0
  pub text_plain : newlines (text_of piece) ≡ 0

-- without its newline a piece has none
line_plain : (piece : List ℕ) → (IsWhole piece) ⊎ (IsOpen piece) → newlines (without_last 10 piece) ≡ 0
line_plain piece (inl w) = ap newlines (ap (without_last 10) w.is ∙ newline_cut w.front)
    ∙ no_newline w.front w.none where
      newline_cut : (front : List ℕ) → without_last 10 (front ++ 10 ∷ []) ≡ front
      newline_cut [] = refl
      newline_cut (b ∷ []) = refl
      newline_cut (b ∷ c ∷ cs) = ap (λ z. b ∷ z) (newline_cut (c ∷ cs))
line_plain piece (inr o) =
    let h = front_kept 10 piece in
    let total : newlines piece ≡ newlines (without_last 10 piece) + newlines h.0 = ap newlines h.1
    ∙ newlines-append (without_last 10 piece) h.0 in
    omega (arith, total, no_newline piece o.none)

pub text_in : (piece : List ℕ) → (IsWhole piece) ⊎ (IsOpen piece) → TextIn piece
text_in piece w =
    let h = front_kept 10 piece in
    let line = without_last 10 piece in
    let k = front_kept 13 line in
    let f = end_kept (without_last 13 line) in
    let b = back_kept (trim_front (without_last 13 line)) in
    let inside : line ≡ f.0 ++ (text_of piece ++ (b.0 ++ k.0)) =
    k.1 ∙ ap (λ z. z ++ k.0) (f.1 ∙ ap (λ z. f.0 ++ z) b.1) ∙ simp append_assoc in
    let total : newlines line ≡ newlines f.0 + (newlines (text_of piece) + newlines (b.0 ++ k.0)) =
    ap newlines inside ∙ newlines-append f.0 (text_of piece ++ (b.0 ++ k.0))
    ∙ ap (λ n. newlines f.0 + n) (newlines-append (text_of piece) (b.0 ++ k.0)) in
    let none = line_plain piece w in
    record {
      front = f.0;
      back = (b.0 ++ k.0) ++ h.0;
      is = h.1 ∙ ap (λ z. z ++ h.0) inside ∙ simp append_assoc;
      front_plain = omega (arith, total, none);
      text_plain = omega (arith, total, none);
    }
