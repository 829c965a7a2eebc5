-- Laws of the limits of lines and articles.
use Rattle.std.proofs.Common.{◌≡◌, ◌≢◌, ◌<◌, ◌≤◌, ◌+◌, ◌-◌, inl, inr, ℕ, suc, Bool, true, false, cond, List, []}
use Rattle.std.proofs.Common.{◌∷◌, ◌++◌, length, ltb, append-nil, length-append, sym, subst, ◌∙◌, refl, arith}
use Rattle.std.specs.Prelude.{Option, Some, None}
use Rattle.std.proofs.lemmas.Bool.Decides.{leb_tells}
use Rattle.ot_lines.specs.Pieces.{IsOpenTo, without_last}
use Rattle.ot_lines.proofs.Trimming.{kept_last, length-without_last, length-without_last_le}
use Rattle.ot_logic.specs.Faults.{Fault, LineTooLong, ArticleTooLong}
use Rattle.ot_logic.specs.Names.{Name}
use Rattle.ot_scan.specs.Lines.{limit_fault, NamesLimit, IsLong}

-- ---- which place is the earlier

pub names_limit : (max before : ℕ) (piece : List ℕ) → NamesLimit max before piece
names_limit max before piece =
    elim (leb_tells 65536 (length (without_last 10 piece))) [
      | inl l ↦ elim (leb_tells (suc max) (before + length piece)) [
        | inl p ↦ elim (leb_tells (suc (before + 65536)) (max + 1)) [
          | inl e ↦ inr (inl (rw (l.0, p.0, e.0) refl, l.1, e.1))
          | inr e ↦ inr (inr (rw (l.0, p.0, e.0) refl, p.1, λ h. omega (arith, e.1)))
        ]
        | inr p ↦ inr (inl (rw (l.0, p.0) refl, l.1, omega (arith, l.1, p.1, length-without_last_le 10 piece)))
      ]
      | inr l ↦ elim (leb_tells (suc max) (before + length piece)) [
        | inl p ↦ inr (inr (rw (l.0, p.0) refl, p.1, λ h. absurd (omega (arith, h, l.1))))
        | inr p ↦ inl (rw (l.0, p.0) refl, λ h. omega (arith, h, l.1), omega (arith, p.1))
      ]
    ]

-- a piece that is short enough for both limits
pub limit-kept : (max before : ℕ) (piece : List ℕ) → length piece ≤ 65535 → before + length piece ≤ max
    → limit_fault max before piece ≡ None
limit-kept max before piece short within = elim (names_limit max before piece) [
  | inl h ↦ h.0
  | inr h ↦ elim h [
    | inl long ↦ absurd (omega (arith, long.1, short, length-without_last_le 10 piece))
    | inr past ↦ absurd (omega (arith, past.1, within))
  ]
]

-- past the article's limit, the fault does not depend on where the piece ends
limit-past : (max before : ℕ) (piece : List ℕ) → max < before + length piece → limit_fault max before piece
    ≡ cond (ltb (before + 65536) (max + 1)) (Some LineTooLong) (Some ArticleTooLong)
limit-past max before piece past =
    elim (leb_tells (suc max) (before + length piece)) [
      | inl p ↦ elim (leb_tells 65536 (length (without_last 10 piece))) [
        | inl l ↦ rw (l.0, p.0) refl
        | inr l ↦ elim (leb_tells (suc (before + 65536)) (max + 1)) [
          | inl e ↦ absurd (omega (arith, e.1, l.1, past, length-without_last 10 piece))
          | inr e ↦ rw (l.0, p.0, e.0) refl
        ]
      ]
      | inr p ↦ absurd (omega (arith, past, p.1))
    ]

-- ---- a line that is too long

-- so does that of a line with a 65,536th byte
limit-long : (max before : ℕ) (piece : List ℕ) → IsLong piece → limit_fault max before piece
    ≡ cond (ltb (before + 65536) (max + 1)) (Some LineTooLong) (Some ArticleTooLong)
limit-long max before piece long =
    elim (leb_tells (suc max) (before + length piece)) [
      | inl p ↦ limit-past max before piece p.1
      | inr p ↦ elim (leb_tells 65536 (length (without_last 10 piece))) [
        | inl l ↦ elim (leb_tells (suc (before + 65536)) (max + 1)) [
          | inl e ↦ rw (l.0, p.0, e.0) refl
          | inr e ↦ absurd (omega (arith, e.1, p.1, l.1, length-without_last_le 10 piece))
        ]
        | inr l ↦ absurd (omega (arith, l.1, long))
      ]
    ]

-- without a newline nothing is dropped
open_is_long : (front : List ℕ) → 65536 ≤ length front → IsOpenTo (length front) front → IsLong front
open_is_long front long none = subst (λ (bs : List ℕ). 65536 ≤ length bs)
    (kept_last 10 front (λ some. none (length front - 1) (omega (arith, some)))) long

longer_is_long : (front rest : List ℕ) → 65536 ≤ length front → IsOpenTo (length front) front → IsLong (front ++ rest)
longer_is_long front [] long none = rw (append-nil front) (open_is_long front long none)
longer_is_long front (b ∷ bs) long none =
    omega (arith, long, length-append front (b ∷ bs), length-without_last 10 (front ++ b ∷ bs))

-- the fault of a piece is that of its first 65,536 bytes, or more, where no newline is among them
pub limit-front : (max before : ℕ) (front rest : List ℕ) → 65536 ≤ length front → IsOpenTo (length front) front
    → limit_fault max before (front ++ rest) ≡ limit_fault max before front
limit-front max before front rest long none =
    limit-long max before (front ++ rest) (longer_is_long front rest long none)
    ∙ sym (limit-long max before front (open_is_long front long none))

-- which there is
abbrev no_fault : Option (Fault Name)
no_fault = None

some_fault : (b : Bool) → cond b (Some LineTooLong) (Some ArticleTooLong) ≡ no_fault → ⊥
some_fault true e = cc
some_fault false e = cc

pub limit-found : (max before : ℕ) (front : List ℕ) → 65536 ≤ length front → IsOpenTo (length front) front
    → limit_fault max before front ≢ None
limit-found max before front long none e =
    some_fault (ltb (before + 65536) (max + 1)) (sym (limit-long max before front (open_is_long front long none)) ∙ e)
