-- The text of a line that keeps the limits.
use Rattle.std.proofs.Common.{◌≡◌, ◌≢◌, ◌<◌, ◌≤◌, ◌-◌, ◌⊎◌, inl, inr, ℕ, suc, Bool, true, false, cond, List}
use Rattle.std.proofs.Common.{[], ◌∷◌, ◌++◌, length, take, get_or, reverse, sym, subst, ◌∙◌, arith}
use Rattle.std.specs.Prelude.{Option, None}
use Rattle.std.proofs.lemmas.Bool.Decides.{eqb_tells, leb_tells}
use Rattle.std.proofs.lemmas.List.{reverse-append, length-reverse, length-take, get_or-take}
use Rattle.ot_logic.specs.Lists.{IsMember}
use Rattle.ot_lines.specs.Pieces.{without_last, is_blank, trim_front, text_of}
use Rattle.ot_lines.proofs.Trimming.{length-without_last_le}
use Rattle.ot_scan.specs.Lines.{limit_fault, IsLong, IsLineText}
use Rattle.ot_scan.specs.Reading.{IsFirstPiece}
use Rattle.ot_scan.proofs.Limits.{names_limit}

-- ---- trimming takes bytes away, and adds none

blank-cases : (P : List ℕ → Type 0) (b : Bool) (xs ys : List ℕ) → P xs → P ys → P (cond b xs ys)
blank-cases P true xs ys p q = p
blank-cases P false xs ys p q = q

front-shorter : (text : List ℕ) → length (trim_front text) ≤ length text
front-shorter [] = omega arith
front-shorter (b ∷ bs) = blank-cases (λ z. length z ≤ length (b ∷ bs)) (is_blank b) (trim_front bs) (b ∷ bs)
    (omega (arith, front-shorter bs)) (omega arith)

front-member : (x : ℕ) (text : List ℕ) → IsMember x (trim_front text) → IsMember x text
front-member x [] = λ m. m
front-member x (b ∷ bs) = blank-cases (λ z. IsMember x z → IsMember x (b ∷ bs)) (is_blank b) (trim_front bs) (b ∷ bs)
    (λ m. inr (front-member x bs m)) (λ m. m)

member-cases : (x : ℕ) (xs ys : List ℕ) → IsMember x (xs ++ ys) → IsMember x xs ⊎ IsMember x ys
member-cases x [] ys m = inr m
member-cases x (y ∷ xs) ys m = elim m [
  | inl e ↦ inl (inl e)
  | inr k ↦ elim (member-cases x xs ys k) [ inl a ↦ inl (inr a) | inr b ↦ inr b ]
]

reverse-member : (x : ℕ) (xs : List ℕ) → IsMember x (reverse xs) → IsMember x xs
reverse-member x [] m = m
reverse-member x (b ∷ bs) m =
    elim (member-cases x (reverse bs) (b ∷ []) (subst (IsMember x) (reverse-append (b ∷ []) bs) m)) [
      | inl k ↦ inr (reverse-member x bs k)
      | inr k ↦ elim k [ inl e ↦ inl e | inr z ↦ absurd z ]
    ]

pub last-member : (x y : ℕ) (xs : List ℕ) → IsMember x (without_last y xs) → IsMember x xs
last-member x y [] m = m
last-member x y (b ∷ []) m = elim (eqb_tells b y) [
  | inl q ↦ absurd (subst (λ (z : Bool). IsMember x (cond z [] (b ∷ []))) q.0 m)
  | inr q ↦ subst (λ (z : Bool). IsMember x (cond z [] (b ∷ []))) q.0 m
]
last-member x y (b ∷ c ∷ cs) m = elim m [ inl e ↦ inl e | inr k ↦ inr (last-member x y (c ∷ cs) k) ]

pub text-shorter : (piece : List ℕ) → length (text_of piece) ≤ length (without_last 10 piece)
text-shorter piece =
    let line = without_last 13 (without_last 10 piece) in
    omega (
      arith,
      length-reverse (trim_front (reverse (trim_front line))),
      front-shorter (reverse (trim_front line)),
      length-reverse (trim_front line),
      front-shorter line,
      length-without_last_le 13 (without_last 10 piece),
    )

pub text-member : (x : ℕ) (piece : List ℕ) → IsMember x (text_of piece) → IsMember x (without_last 10 piece)
text-member x piece m =
    let line = without_last 13 (without_last 10 piece) in
    last-member x 13 (without_last 10 piece)
    (front-member x line
    (reverse-member x (trim_front line)
    (front-member x (reverse (trim_front line)) (reverse-member x (trim_front (reverse (trim_front line))) m))))

-- ---- the first piece

none-before : (piece : List ℕ) → ((k : ℕ) → suc k < length piece → get_or piece k 0 ≢ 10)
    → ¬ (IsMember 10 (without_last 10 piece))
none-before [] h m = m
none-before (b ∷ []) h m = elim (eqb_tells b 10) [
  | inl q ↦ subst (λ (z : Bool). IsMember 10 (cond z [] (b ∷ []))) q.0 m
  | inr q ↦ elim (subst (λ (z : Bool). IsMember 10 (cond z [] (b ∷ []))) q.0 m) [ inl e ↦ q.1 e | inr z ↦ z ]
]
none-before (b ∷ c ∷ cs) h m = elim m [
  | inl e ↦ h 0 (omega arith) e
  | inr k ↦ none-before (c ∷ cs) (λ i l. h (suc i) (omega (arith, l))) k
]

-- none of its bytes but the last is a newline
open-first : (len : ℕ) (held : List ℕ) (left : Bool) → IsFirstPiece len held left → (k : ℕ) → suc k < len
    → get_or held k 0 ≢ 10
open-first len held left first k l = elim first.cut [
  | inl h ↦ h.open_before k (omega (arith, l))
  | inr h ↦ h.open_to k (omega (arith, l))
]

pub not-long : (max before : ℕ) (piece : List ℕ) → limit_fault max before piece ≡ None → ¬ (IsLong piece)
not-long max before piece e = elim (names_limit max before piece) [
  | inl h ↦ h.1
  | inr h ↦ elim h [ inl a ↦ absurd (cc (a.0, e)) | inr a ↦ absurd (cc (a.0, e)) ]
]

pub short-piece : (piece : List ℕ) → ¬ (IsLong piece) → length (without_last 10 piece) ≤ 65535
short-piece piece n =
    elim (leb_tells 65536 (length (without_last 10 piece))) [ inl l ↦ absurd (n l.1) | inr l ↦ omega (arith, l.1) ]

-- so a line can hold its text
pub line-fits : (max before len : ℕ) (held : List ℕ) (left : Bool) → IsFirstPiece len held left
    → limit_fault max before (take len held) ≡ None → IsLineText (text_of (take len held))
line-fits max before len held left first limits =
    let piece = take len held in
    record {
      short = omega (arith, text-shorter piece, short-piece piece (not-long max before piece limits));
      one = λ m. none-before piece (λ k l e. open-first len held left first k (omega (arith, l, length-take len held))
          (sym (get_or-take len held k 0 (omega (arith, l, length-take len held))) ∙ e)) (text-member 10 piece m);
    }
