-- Each line of an article has a text that a line can hold.
use Rattle.std.proofs.Common.{◌≡◌, ◌+◌, ◌⊎◌, inl, inr, ℕ, Bool, true, false, cond, List, [], ◌∷◌, ◌++◌}
use Rattle.std.proofs.Common.{length, sym, subst, refl, arith}
use Rattle.std.specs.Prelude.{Option, Some, None}
use Rattle.ot_logic.specs.Lists.{IsMember}
use Rattle.ot_logic.specs.Faults.{Fault}
use Rattle.ot_logic.specs.Names.{Name}
use Rattle.ot_lines.specs.Pieces.{without_last, text_of, is_skipped, pieces, IsWhole, IsOpen, AreWhole}
use Rattle.ot_lines.proofs.Pieces.{one_cut-from}
use Rattle.ot_scan.specs.Lines.{Lines, Finished, Broken, Next, limit_fault, with_piece, lines_after, lines_of, IsLineText}
use Rattle.ot_scan.proofs.Fitting.{not-long, short-piece, text-shorter, text-member, last-member}

abbrev pub AllFit : Lines → Type 0
AllFit Finished = Unit {0}
AllFit (Broken number fault) = Unit {0}
AllFit (Next number text lines) = IsLineText text × AllFit lines

last-whole : (front : List ℕ) → ¬ (IsMember 10 front) → ¬ (IsMember 10 (without_last 10 (front ++ 10 ∷ [])))
last-whole [] none m = m
last-whole (b ∷ []) none m = elim m [ inl e ↦ none (inl e) | inr z ↦ z ]
last-whole (b ∷ c ∷ cs) none m = elim m [
  | inl e ↦ none (inl e)
  | inr k ↦ last-whole (c ∷ cs) (λ x. none (inr x)) k
]

one-newline : (p : List ℕ) → IsWhole p ⊎ IsOpen p → ¬ (IsMember 10 (without_last 10 p))
one-newline p w m = elim w [
  | inl h ↦ last-whole h.front h.none (subst (λ z. IsMember 10 (without_last 10 z)) h.is m)
  | inr h ↦ h.none (last-member 10 10 p m)
]

piece-fits : (max before : ℕ) (p : List ℕ) → IsWhole p ⊎ IsOpen p → limit_fault max before p ≡ None
    → IsLineText (text_of p)
piece-fits max before p w e = record {
  short = omega (arith, text-shorter p, short-piece p (not-long max before p e));
  one = λ m. one-newline p w (text-member 10 p m);
}

skipped-fit : (b : Bool) (number : ℕ) (text : List ℕ) (after : Lines) → IsLineText text → AllFit after
    → AllFit (cond b after (Next number text after))
skipped-fit true number text after t a = a
skipped-fit false number text after t a = (t, a)

with-fits : (number : ℕ) (text : List ℕ) (o : Option (Fault Name)) (after : Lines) → (o ≡ None → IsLineText text)
    → AllFit after → AllFit (with_piece number text o after)
with-fits number text (Some fault) after t a = tt
with-fits number text None after t a = skipped-fit (is_skipped text) number text after (t refl) a

head-whole : (p : List ℕ) (ps : List (List ℕ)) → AreWhole (p ∷ ps) → (IsWhole p ⊎ IsOpen p) × AreWhole ps
head-whole p [] w = (w, tt)
head-whole p (q ∷ qs) w = (inl w.0, w.1)

after-fits : (max before number : ℕ) (ps : List (List ℕ)) → AreWhole ps → AllFit (lines_after max before number ps)
after-fits max before number [] w = tt
after-fits max before number (p ∷ ps) w =
    let h = head-whole p ps w in
    with-fits (number + 1) (text_of p) (limit_fault max before p) _ (piece-fits max before p h.0)
    (after-fits max (before + length p) (number + 1) ps h.1)

pub lines_of-fit : (max : ℕ) (bytes : List ℕ) → AllFit (lines_of max bytes)
lines_of-fit max bytes = after-fits max 0 0 (pieces bytes) (one_cut-from bytes (pieces bytes) refl).whole
