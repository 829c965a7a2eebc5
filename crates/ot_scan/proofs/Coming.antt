-- Laws of the lines to come.
use Rattle.std.proofs.Common.{◌≡◌, ◌<◌, ◌≤◌, ◌+◌, inl, inr, ℕ, true, false, cond, List, [], ◌∷◌, ◌++◌}
use Rattle.std.proofs.Common.{length, take, drop, append_assoc, sym, ap, subst, ◌∙◌, arith}
use Rattle.std.specs.Prelude.{Bool, Option, Some, None, Err}
use Rattle.std.proofs.lemmas.List.{length-take-le, take_all}
use Rattle.ot_lines.specs.Pieces.{IsOpenTo, pieces, text_of, is_skipped}
use Rattle.ot_lines.proofs.Pieces.{before_first, pieces_open, first-ends, first-all}
use Rattle.ot_logic.specs.Faults.{Fault, LineTooLong, ArticleTooLong}
use Rattle.ot_logic.specs.Names.{Name}
use Rattle.ot_scan.specs.Lines.{Scan, Broken, Next, limit_fault, with_piece, lines_after, lines_to_come}
use Rattle.ot_io.specs.Reading.{MayFollow}
use Rattle.ot_io.proofs.Reading.{Reads-then, Reads-none}
use Rattle.ot_scan.specs.Reading.{Fills, IsFirstPiece, KeepsLines, AreToCome, FindsNextLine, ChecksLimits, behind_line}
use Rattle.ot_scan.specs.declared.fault.ScanFault.{ScanFault}
use Rattle.ot_scan.specs.declared.fault.ScanFault.TheVariants as code
use Rattle.ot_scan.proofs.Limits.{limit-front, limit-found}

-- ---- the same lines

pub keeps-more : (old mid new : Scan) (left left' left'' : Option (List ℕ)) → KeepsLines old mid left left'
    → KeepsLines mid new left' left'' → KeepsLines old new left left''
keeps-more old mid new left left' left'' p q =
    Reads-then old.ended mid.ended new.ended left left' left'' _ _ _ (λ x y z e f. f ∙ e) p q

-- what was read changes no line
pub keeps-fills : (old new : Scan) (left left' : Option (List ℕ)) → Fills old new left left'
    → KeepsLines old new left left'
keeps-fills old new left left' r = record {
  read = r.bytes;
  lost = r.lost;
  stays = r.stays;
  end = r.end;
  holds = λ rest may.
      ap (λ s. lines_to_come s rest) r.held
      ∙ ap (λ z. lines_after old.max old.before old.number (pieces z)) (append_assoc old.held r.bytes rest);
}

-- ---- the first piece

-- the first piece, where it keeps the limits
first-within : (max before len : ℕ) (held rest : List ℕ) (ended : Bool) → MayFollow ended rest
    → IsFirstPiece len held ended → 0 < len → limit_fault max before (take len held) ≡ None → pieces (held ++ rest) ≡ take len held
    ∷ pieces (drop len held ++ rest)
first-within max before len held rest ended may first some within = elim first.cut [
  | inl h ↦ first-ends len held rest h
  | inr h ↦ elim h.stop [
    | inl full ↦
        absurd (limit-found max before held (omega (arith, full, h.all))
        (λ k l. h.open_to k (omega (arith, l, h.all)))
        (ap (limit_fault max before) (sym (take_all len held (omega (arith, h.all)))) ∙ within))
    | inr end ↦ ap (λ z. pieces (held ++ z)) (may end) ∙ first-all len held some h.all h.open_to
        ∙ ap (λ z. take len held ∷ pieces (drop len held ++ z)) (sym (may end))
  ]
]

-- the first piece has this fault
record Breaks (max before : ℕ) (bytes : List ℕ) (why : Fault Name) : Type 0 where
  pub piece : List ℕ
  pub rest : List (List ℕ)
  pub cut : pieces bytes ≡ piece ∷ rest
  pub fault : limit_fault max before piece ≡ Some why

-- it breaks where its first bytes do, though more of it may be left
breaks-onto : (max before : ℕ) (held rest : List ℕ) (fault : Fault Name) → 65536 ≤ length held
    → IsOpenTo (length held) held → limit_fault max before held ≡ Some fault → (ps : List (List ℕ))
    → pieces (held ++ rest) ≡ before_first held ps → Breaks max before (held ++ rest) fault
breaks-onto max before held rest fault long none e [] cut = record { piece = held; rest = []; cut = cut; fault = e }
breaks-onto max before held rest fault long none e (p ∷ ps) cut =
    record { piece = held ++ p; rest = ps; cut = cut; fault = limit-front max before held p long none ∙ e }

first-breaks : (max before len : ℕ) (held rest : List ℕ) (ended : Bool) (fault : Fault Name) → MayFollow ended rest
    → IsFirstPiece len held ended → 0 < len
    → limit_fault max before (take len held) ≡ Some fault → Breaks max before (held ++ rest) fault
first-breaks max before len held rest ended fault may first some e = elim first.cut [
  | inl h ↦ record {
    piece = take len held;
    rest = pieces (drop len held ++ rest);
    cut = first-ends len held rest h;
    fault = e;
  }
  | inr h ↦ elim h.stop [
    | inl full ↦
        let none : IsOpenTo (length held) held = λ k l. h.open_to k (omega (arith, l, h.all)) in
        breaks-onto max before held rest fault (omega (arith, full, h.all)) none
        (ap (limit_fault max before) (sym (take_all len held (omega (arith, h.all)))) ∙ e) (pieces rest)
        (pieces_open held rest (omega (arith, some, h.all)) none)
    | inr end ↦ record {
      piece = take len held;
      rest = pieces (drop len held ++ rest);
      cut = ap (λ z. pieces (held ++ z)) (may end) ∙ first-all len held some h.all h.open_to
          ∙ ap (λ z. take len held ∷ pieces (drop len held ++ z)) (sym (may end));
      fault = e;
    }
  ]
]

-- ---- the lines to come, by the first piece

to_come-first : (scan : Scan) (len : ℕ) → IsFirstPiece len scan.held scan.ended → 0 < len
    → limit_fault scan.max scan.before (take len scan.held) ≡ None
    → AreToCome scan (λ rest. cond (is_skipped (text_of (take len scan.held))) (lines_to_come (behind_line len scan) rest)
    (Next (scan.number + 1) (text_of (take len scan.held)) (lines_to_come (behind_line len scan) rest)))
to_come-first scan len first some within =
    λ rest may.
    ap (lines_after scan.max scan.before scan.number)
    (first-within scan.max scan.before len scan.held rest scan.ended may first some within)
    ∙ ap (λ f. with_piece (scan.number + 1) (text_of (take len scan.held)) f
    (lines_after scan.max (scan.before + length (take len scan.held)) (scan.number + 1)
    (pieces (drop len scan.held ++ rest)))) within
    ∙ ap (λ n. with_piece (scan.number + 1) (text_of (take len scan.held)) None
    (lines_after scan.max (scan.before + n) (scan.number + 1) (pieces (drop len scan.held ++ rest))))
    (length-take-le len scan.held first.within)

-- a line that holds no command
pub keeps-skipped : (scan : Scan) (len : ℕ) (left : Option (List ℕ)) → IsFirstPiece len scan.held scan.ended → 0 < len
    → limit_fault scan.max scan.before (take len scan.held) ≡ None → is_skipped (text_of (take len scan.held)) ≡ true
    → KeepsLines scan (behind_line len scan) left left
keeps-skipped scan len left first some within skipped = Reads-none scan.ended left _ (λ rest may.
    sym (to_come-first scan len first some within rest may
    ∙ ap (λ b. cond b (lines_to_come (behind_line len scan) rest)
    (Next (scan.number + 1) (text_of (take len scan.held)) (lines_to_come (behind_line len scan) rest))) skipped))

-- a line that holds one
pub next-found : (scan : Scan) (len : ℕ) → IsFirstPiece len scan.held scan.ended → 0 < len
    → limit_fault scan.max scan.before (take len scan.held) ≡ None → is_skipped (text_of (take len scan.held)) ≡ false
    → AreToCome scan (λ rest. Next (scan.number + 1) (text_of (take len scan.held))
    (lines_to_come (behind_line len scan) rest))
next-found scan len first some within holds =
    λ rest may.
    to_come-first scan len first some within rest may
    ∙ ap (λ b. cond b (lines_to_come (behind_line len scan) rest)
    (Next (scan.number + 1) (text_of (take len scan.held)) (lines_to_come (behind_line len scan) rest))) holds

-- a line past a limit
pub broken-found : (scan : Scan) (len : ℕ) (fault : Fault Name) → IsFirstPiece len scan.held scan.ended → 0 < len
    → limit_fault scan.max scan.before (take len scan.held) ≡ Some fault
    → AreToCome scan (λ rest. Broken (scan.number + 1) fault)
broken-found scan len fault first some e =
    λ rest may.
    let b = first-breaks scan.max scan.before len scan.held rest scan.ended fault may first some e in
    ap (lines_after scan.max scan.before scan.number) b.cut
    ∙ ap (λ f. with_piece (scan.number + 1) (text_of b.piece) f
    (lines_after scan.max (scan.before + length b.piece) (scan.number + 1) b.rest)) b.fault

pub stop-found : (scan : Scan) (len : ℕ) (fault : ScanFault) → IsFirstPiece len scan.held scan.ended → 0 < len
    → ChecksLimits (Err fault) (scan.number + 1) (limit_fault scan.max scan.before (take len scan.held))
    → FindsNextLine (Err fault) scan
stop-found scan len (code.LineTooLong number) first some h =
    subst (λ n. AreToCome scan (λ rest. Broken n LineTooLong)) (sym h.0)
    (broken-found scan len LineTooLong first some h.1)
stop-found scan len (code.ArticleTooLong number) first some h =
    subst (λ n. AreToCome scan (λ rest. Broken n ArticleTooLong)) (sym h.0)
    (broken-found scan len ArticleTooLong first some h.1)
stop-found scan len code.ReadFault first some h = absurd h
