-- The lines of a theory file.
use Rattle.std.specs.Prelude.{◌≡◌, ◌+◌, ℕ, List, [], ◌∷◌, length, drop, Option, Some, None, if◌then◌else◌}
use Rattle.ot_lines.specs.Pieces.{pieces, text_of, is_skipped}
use Rattle.ot_theory.specs.declared.lines.Line.{Line}

-- a line that isn't passed over: its number, counted from 1, and its trimmed text
pub record LineText : Type 0 where
  pub number : ℕ
  pub text : List ℕ

-- the lines of these pieces, behind so many others
abbrev pub numbered_lines : ℕ → List (List ℕ) → List LineText
numbered_lines before [] = []
numbered_lines before (p ∷ ps) =
    if is_skipped (text_of p) then numbered_lines (before + 1) ps
    else record { number = before + 1; text = text_of p } ∷ numbered_lines (before + 1) ps

-- the lines of a text that aren't passed over
abbrev pub lines_of : List ℕ → List LineText
lines_of text = numbered_lines 0 (pieces text)

-- ---- the answers of the code

-- the lines that are left from a place on, behind so many others
abbrev pub lines_at : List ℕ → ℕ → ℕ → List LineText
lines_at text at before = numbered_lines before (pieces (drop at text))

-- how many lines there are, with those before the place
abbrev pub line_count : List ℕ → ℕ → ℕ → ℕ
line_count text at before = before + length (pieces (drop at text))

-- a line, without where it lies in the text
abbrev pub line_of : Line → LineText
line_of line = record { number = line.number; text = line.text.now }

-- the first of the lines was taken, or there was none
abbrev pub TakesLine : Option Line → List LineText → List LineText → Type 0
TakesLine None old new = (old ≡ []) × (new ≡ [])
TakesLine (Some line) old new = old ≡ line_of line ∷ new
