-- The lines of an article.
use Rattle.std.specs.Prelude.{◌≡◌, ◌<◌, ◌≤◌, ◌+◌, ℕ, ◌⊎◌, if◌then◌else◌, nat_lt, nat_le, List, [], ◌∷◌}
use Rattle.std.specs.Prelude.{◌++◌, length, Bool, true, Option, Some, None, Result, Ok, Err, IfOk, IfSome, IfNone}
use Rattle.ot_io.specs.Causes.{CountRose}
use Rattle.ot_io.specs.Reading.{Reads}
use Rattle.ot_lines.specs.Pieces.{pieces, without_last, text_of, is_skipped}
use Rattle.ot_logic.specs.Lists.{IsMember}
use Rattle.ot_logic.specs.Faults.{Fault, LineTooLong, ArticleTooLong}
use Rattle.ot_logic.specs.Names.{Name}
use Rattle.ot_scan.specs.declared.lines.Line.{Line}
use Rattle.ot_scan.specs.declared.fault.ScanFault.{ScanFault}
use Rattle.ot_scan.specs.declared.fault.ScanFault.TheVariants as code

-- ---- limits

-- the place of the 65,536th byte of a line that begins after so many bytes; its newline doesn't count
abbrev pub line_limit_at : ℕ → List ℕ → Option ℕ
line_limit_at before piece = if nat_le 65536 (length (without_last 10 piece)) then Some (before + 65536) else None

-- the place of the first byte past the article's limit, where it is in this piece
abbrev pub article_limit_at : ℕ → ℕ → List ℕ → Option ℕ
article_limit_at max before piece = if nat_lt max (before + length piece) then Some (max + 1) else None

-- the fault of the earlier place; at one place it is the article's
abbrev pub earlier_fault : Option ℕ → Option ℕ → Option (Fault Name)
earlier_fault None None = None
earlier_fault (Some line) None = Some LineTooLong
earlier_fault None (Some article) = Some ArticleTooLong
earlier_fault (Some line) (Some article) = if nat_lt line article then Some LineTooLong else Some ArticleTooLong

-- the fault of a piece that stands after so many bytes of an article
abbrev pub limit_fault : ℕ → ℕ → List ℕ → Option (Fault Name)
limit_fault max before piece = earlier_fault (line_limit_at before piece) (article_limit_at max before piece)

-- ---- lines

-- the lines to come: the end, a line past a limit, or the text of a line that holds a command, with its number, and
-- more
pub data Lines : Type 0 where
  Finished : Lines
  Broken : ℕ → Fault Name → Lines
  Next : ℕ → List ℕ → Lines → Lines

-- what one piece adds before the lines after it
abbrev pub with_piece : ℕ → List ℕ → Option (Fault Name) → Lines → Lines
with_piece number text (Some fault) after = Broken number fault
with_piece number text None after = if is_skipped text then after else Next number text after

-- the lines of these pieces, which stand after so many bytes and so many lines
abbrev pub lines_after : ℕ → ℕ → ℕ → List (List ℕ) → Lines
lines_after max before number [] = Finished
lines_after max before number (p ∷ ps) = with_piece (number + 1) (text_of p) (limit_fault max before p)
    (lines_after max (before + length p) (number + 1) ps)

-- the lines of an article
abbrev pub lines_of : ℕ → List ℕ → Lines
lines_of max bytes = lines_after max 0 0 (pieces bytes)

-- ---- the text of a line

-- a text that a line can hold: at most 65,535 bytes, and no newline
pub record IsLineText (text : List ℕ) : Type 0 where
  pub short : length text ≤ 65535
  pub one : ¬ (IsMember 10 text)

-- ---- the lines to come

-- what is known of an article in the midst of its lines: its limit, the bytes that are held and that no line took
-- yet, how many bytes and lines of it came before them, and whether its end was seen, behind which nothing is read
pub record Scan : Type 0 where
  pub max : ℕ
  pub held : List ℕ
  pub before : ℕ
  pub number : ℕ
  pub ended : Bool

-- the lines to come: those of the bytes that are held, followed by those that are left
abbrev pub lines_to_come : Scan → List ℕ → Lines
lines_to_come scan left = lines_after scan.max scan.before scan.number (pieces (scan.held ++ left))

-- ---- the answers of the code

-- the next line was taken; at the end there was none; at a fault the lines to come are the same
abbrev pub TakesLine : Result (Option Line) ScanFault → Lines → Lines → Type 0
TakesLine (Ok None) old new = (old ≡ Finished) × (new ≡ Finished)
TakesLine (Ok (Some line)) old new = old ≡ Next line.number line.text.now new
TakesLine (Err (code.LineTooLong number)) old new = (old ≡ Broken number LineTooLong) × (new ≡ old)
TakesLine (Err (code.ArticleTooLong number)) old new = (old ≡ Broken number ArticleTooLong) × (new ≡ old)
TakesLine (Err code.ReadFault) old new = new ≡ old

-- the next line was taken of the bytes that were held, those that were read in this call, and any that may follow; the
-- end is answered where it was seen and no byte is held
pub record TakesFrom (result : Result (Option Line) ScanFault) (old new : Scan) (left left' : Option (List ℕ)) : Type
    0 where
  pub line : Reads old.ended new.ended left left'
      (λ all rest. TakesLine result (lines_to_come old all) (lines_to_come new rest))
  pub end : IfOk result (λ o. IfNone o ((new.held ≡ []) × (new.ended ≡ true)))

-- a line has a number of its own, greater than those of before, which the limit bounds; also where the source's
-- bytes aren't known
pub record Counts (result : Result (Option Line) ScanFault) (old new : Scan) : Type 0 where
  pub max : new.max ≡ old.max
  pub line : IfOk result
      (λ o. IfSome o (λ line. (line.number ≡ new.number) × (old.number < new.number) × (new.number ≤ new.max)))

-- a read fault comes only where the count of the source's failures rose
abbrev pub HasReadCause : ScanFault → ℕ → ℕ → Type 0
HasReadCause code.ReadFault before now = CountRose before now
HasReadCause (code.LineTooLong number) before now = Unit {0}
HasReadCause (code.ArticleTooLong number) before now = Unit {0}

-- ---- laws

-- a line has a 65,536th byte, its newline not counted
abbrev pub IsLong : List ℕ → Type 0
IsLong piece = 65536 ≤ length (without_last 10 piece)

-- a piece keeps both limits, or its line goes past its own, before the article does, or the article does, and its
-- line not before it
abbrev pub NamesLimit : ℕ → ℕ → List ℕ → Type 0
NamesLimit max before piece =
    ((limit_fault max before piece ≡ None) × ¬ (IsLong piece) × (before + length piece ≤ max))
    ⊎ (((limit_fault max before piece ≡ Some LineTooLong) × IsLong piece × (before + 65536 < max + 1))
    ⊎ ((limit_fault max before piece ≡ Some ArticleTooLong) × (max < before + length piece)
    × (IsLong piece → max + 1 ≤ before + 65536)))
