-- The sequents that the lines of a text stand for, one after another, or the first refusal; and what is printed of
-- them.
use Rattle.std.specs.Prelude.{◌≡◌, ℕ, ◌+◌, ◌-◌, List, [], ◌∷◌, ◌++◌, length, flat_map, Result, Ok, Err}
use Rattle.ot_logic.specs.Answers.{◌>>=◌}
use Rattle.ot_logic.specs.Names.{Name}
use Rattle.ot_logic.specs.Trees.{Tm, Sequent, Symbol}
use Rattle.ot_theory.specs.Lines.{LineText}
use Rattle.ot_text.specs.Texts.{sequent_text}
use Rattle.ot_forms.specs.declared.fault.TextFault.{TextFault}
use Rattle.ot_forms.specs.declared.fault.TextFault.TheVariants.{Syntax, TooManyOpen}
use Rattle.ot_forms.specs.Meaning.{Refusal, line_meaning, term_meaning}
use Rattle.ot_forms.specs.Reading.{Reading, Got, Halted, NoForm, OneTooMany, line_at}
use Rattle.ot_parse.specs.ReadLines.{terms}
use Rattle.ot_read.specs.declared.lines.LineRefusal.{LineRefusal}
use Rattle.ot_read.specs.declared.lines.LineRefusal.TheVariants as refusals

-- ---- one line, and a text of one term

-- what a text means that was read so: reading has to end where the text does, and to halt is a refusal at the byte
-- there
abbrev pub meant : {A B : Type 0} → (A → Result B Refusal) → List ℕ → Reading A → Result B Refusal
meant means text (Got a []) = means a
meant means text (Got a (b ∷ rest)) = Err (length text - length (b ∷ rest), Syntax)
meant means text (Halted NoForm rest) = Err (length text - length rest, Syntax)
meant means text (Halted OneTooMany rest) = Err (length text - length rest, TooManyOpen)

-- the sequent that a line stands for, or its refusal, at a byte counted from 0
unfoldable pub line_read : List (Symbol Name) → List ℕ → Result (Sequent Name) Refusal
line_read hidden line = meant (line_meaning hidden) line (line_at (terms hidden) line)

-- the term that a text stands for, or its refusal
unfoldable pub term_read : List (Symbol Name) → List ℕ → Result (Tm Name) Refusal
term_read hidden text = meant (term_meaning hidden) text (terms hidden text)

-- ---- lines

-- the refusal of a line: its number, its column from 1, and its fault
pub record RefusedLine : Type 0 where
  pub line : ℕ
  pub column : ℕ
  pub fault : TextFault

-- what the line with this number is read as
abbrev pub at_line : {A : Type 0} → ℕ → Result A Refusal → Result A RefusedLine
at_line number (Ok a) = Ok a
at_line number (Err (place, fault)) = Err (record { line = number; column = place + 1; fault = fault })

-- the sequents that lines stand for, or the first refusal
abbrev pub lines_read : List (Symbol Name) → List LineText → Result (List (Sequent Name)) RefusedLine
lines_read hidden [] = Ok []
lines_read hidden (l ∷ ls) = at_line l.number (line_read hidden l.text) >>= λ q. lines_read hidden ls
    >>= λ qs. Ok (q ∷ qs)

-- the printed texts of sequents, each on a line of its own
abbrev pub sequent_lines : List (Sequent Name) → List ℕ
sequent_lines qs = flat_map (λ q. sequent_text q ++ 10 ∷ []) qs

-- the code's refusal is the one that was found
abbrev pub IsLineRefusal : {A : Type 0} → Result A RefusedLine → LineRefusal → Type 0
IsLineRefusal read (refusals.At line column fault) =
    read ≡ Err (record { line = line; column = column; fault = fault })
IsLineRefusal read (refusals.Memory memory) = Unit {0}
