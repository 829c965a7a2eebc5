-- How lines are read: the bytes that are held, and the first piece among them.
use Rattle.std.specs.Prelude.{◌≡◌, ◌<◌, ◌≤◌, ◌+◌, ◌-◌, ◌^◌, ◌⊎◌, ℕ, List, [], ◌++◌, length, take}
use Rattle.std.specs.Prelude.{drop, Bool, true, false, Option, Some, None, Result, Ok, Err}
use Rattle.std.specs.Io.KnownBytes.{Consumes, IsAtEnd}
use Rattle.ot_io.specs.Reading.{MayFollow, Reads}
use Rattle.ot_lines.specs.Pieces.{IsOpenTo, EndsAt, text_of, is_skipped}
use Rattle.ot_logic.specs.Faults.{Fault, LineTooLong, ArticleTooLong}
use Rattle.ot_logic.specs.Names.{Name}
use Rattle.ot_scan.specs.Lines.{Scan, Lines, Broken, Next, IsLineText, lines_to_come}
use Rattle.ot_scan.specs.declared.fault.ScanFault.{ScanFault}
use Rattle.ot_scan.specs.declared.fault.ScanFault.TheVariants as code

-- what holds of the fields: a part of an array of 65,536 bytes, the place where the article's limit stands, no more
-- than its bytes behind the part's start, and a count of lines
pub record IsScanner (start end limit number max : ℕ) : Type 0 where
  pub ordered : start ≤ end
  pub inside : end ≤ 65536
  pub numbered : number ≤ max - (limit - start)
  pub placed : start ≤ limit
  pub limited : limit - start ≤ max
  pub small : max ≤ 2 ^ 32

-- ---- reading more

-- what was read is held behind the bytes of before, and nothing else changed but whether the end was seen
pub record Fills (old new : Scan) (left left' : Option (List ℕ)) : Type 0 where
  pub bytes : List ℕ
  pub lost : Consumes left left' bytes
  pub held : new ≡ record old { held = old.held ++ bytes; ended = new.ended }
  pub stays : old.ended ≡ true → (new.ended ≡ true) × (bytes ≡ [])
  pub end : (old.ended ≡ true → IsAtEnd left) → new.ended ≡ true → IsAtEnd left'

-- ---- the first piece

-- all the bytes that are held, without a newline: there is no room for more, or none is left
pub record IsUnended (len : ℕ) (held : List ℕ) (ended : Bool) : Type 0 where
  pub all : length held ≡ len
  pub open_to : IsOpenTo len held
  pub stop : (65536 ≤ len) ⊎ (ended ≡ true)

-- the first piece, or its first bytes where it has more than are held, or nothing at the end
pub record IsFirstPiece (len : ℕ) (held : List ℕ) (ended : Bool) : Type 0 where
  pub within : len ≤ length held
  pub cut : EndsAt len held ⊎ IsUnended len held ended

-- ---- lines that hold no command

-- after a line of this length
abbrev pub behind_line : ℕ → Scan → Scan
behind_line len scan =
    record scan { held = drop len scan.held; before = scan.before + len; number = scan.number + 1 }

-- the lines to come are the same
abbrev pub KeepsLines : Scan → Scan → Option (List ℕ) → Option (List ℕ) → Type 0
KeepsLines old new left left' =
    Reads old.ended new.ended left left' (λ all rest. lines_to_come new rest ≡ lines_to_come old all)

-- the limit stays, and the number of lines doesn't fall
pub record GoesOn (old new : Scan) : Type 0 where
  pub max : new.max ≡ old.max
  pub number : old.number ≤ new.number

-- these are the lines to come, whatever may follow
abbrev pub AreToCome : Scan → (List ℕ → Lines) → Type 0
AreToCome scan lines = (rest : List ℕ) → MayFollow scan.ended rest → lines_to_come scan rest ≡ lines rest

-- of the bytes that are held the first so many are a line that keeps the limits and holds a command
pub record IsCommandLine (len : ℕ) (scan : Scan) : Type 0 where
  pub within : len ≤ length scan.held
  pub limited : scan.before + len ≤ scan.max
  pub holds : is_skipped (text_of (take len scan.held)) ≡ false
  pub fits : IsLineText (text_of (take len scan.held))
  pub next : AreToCome scan (λ rest. Next (scan.number + 1) (text_of (take len scan.held))
      (lines_to_come (behind_line len scan) rest))

-- the length of the next line that holds a command, or 0 at the end
pub record FindsLine (len : ℕ) (scan : Scan) : Type 0 where
  pub line : 0 < len → IsCommandLine len scan
  pub end : len ≡ 0 → (scan.held ≡ []) × (scan.ended ≡ true)

-- the next line that holds a command was found, or what stops the lines
abbrev pub FindsNextLine : Result ℕ ScanFault → Scan → Type 0
FindsNextLine (Ok len) scan = FindsLine len scan
FindsNextLine (Err (code.LineTooLong number)) scan = AreToCome scan (λ rest. Broken number LineTooLong)
FindsNextLine (Err (code.ArticleTooLong number)) scan = AreToCome scan (λ rest. Broken number ArticleTooLong)
FindsNextLine (Err code.ReadFault) scan = Unit {0}

-- ---- limits

-- a line with this number keeps the limits, or goes past one
abbrev pub ChecksLimits : Result (Unit {0}) ScanFault → ℕ → Option (Fault Name) → Type 0
ChecksLimits (Ok done) line fault = fault ≡ None
ChecksLimits (Err (code.LineTooLong number)) line fault = (number ≡ line) × (fault ≡ Some LineTooLong)
ChecksLimits (Err (code.ArticleTooLong number)) line fault = (number ≡ line) × (fault ≡ Some ArticleTooLong)
ChecksLimits (Err code.ReadFault) line fault = ⊥
