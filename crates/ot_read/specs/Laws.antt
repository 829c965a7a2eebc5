-- What is read from left to right is what the forms say, of one line and of lines one after another.
use Rattle.std.specs.Prelude.{◌≡◌, ◌↔◌, ◌<◌, ◌-◌, ℕ, List, [], ◌∷◌, ◌++◌, Result, Ok, Err}
use Rattle.ot_logic.specs.Names.{Name}
use Rattle.ot_logic.specs.Trees.{Sequent, Symbol}
use Rattle.ot_forms.specs.declared.fault.TextFault.{TextFault}
use Rattle.ot_forms.specs.Meaning.{Refusal}
use Rattle.ot_forms.specs.Words.{IsNotation}
use Rattle.ot_forms.specs.Refusals.{ReadsAs, IsRefused, ReadsAsTerm, IsTermRefused}
use Rattle.ot_theory.specs.Lines.{LineText}
use Rattle.ot_read.specs.Lines.{line_read, term_read, lines_read, RefusedLine}

-- it is read as what it stands for, and is refused where and for what the forms refuse it
pub record IsByForms {A : Type 0} (StandsFor : A → Type 0) (IsRefused : ℕ → TextFault → Type 0)
    (read : Result A Refusal) : Type 0 where
  pub stands : (a : A) → (read ≡ Ok a) ↔ StandsFor a
  pub refused : (place : ℕ) (fault : TextFault) → (read ≡ Err (place, fault)) ↔ IsRefused place fault

abbrev pub LinesReadByForms : Type 0
LinesReadByForms = (hidden : List (Symbol Name)) → IsNotation hidden → (line : List ℕ)
    → IsByForms (ReadsAs hidden line) (IsRefused hidden line) (line_read hidden line)

abbrev pub TermsReadByForms : Type 0
TermsReadByForms = (hidden : List (Symbol Name)) → IsNotation hidden → (text : List ℕ)
    → IsByForms (ReadsAsTerm hidden text) (IsTermRefused hidden text) (term_read hidden text)

-- ---- lines

-- by the forms, the lines stand for these sequents, one for one
abbrev pub StandFor : List (Symbol Name) → List LineText → List (Sequent Name) → Type 0
StandFor hidden [] [] = Unit {0}
StandFor hidden (l ∷ ls) (q ∷ qs) = ReadsAs hidden l.text q × StandFor hidden ls qs
StandFor hidden _ _ = ⊥

-- by the forms, the first line that stands for no sequent is refused so
pub record IsFirstRefused (hidden : List (Symbol Name)) (ls : List LineText) (r : RefusedLine) : Type 0 where
  pub before : List LineText
  pub sequents : List (Sequent Name)
  pub line : LineText
  pub after : List LineText
  pub cut : ls ≡ before ++ line ∷ after
  pub stand : StandFor hidden before sequents
  pub number_is : line.number ≡ r.line
  pub column_is : 0 < r.column
  pub refused : IsRefused hidden line.text (r.column - 1) r.fault

abbrev pub AreRead : List (Symbol Name) → List LineText → Result (List (Sequent Name)) RefusedLine → Type 0
AreRead hidden ls (Ok qs) = StandFor hidden ls qs
AreRead hidden ls (Err r) = IsFirstRefused hidden ls r

abbrev pub TextsReadByForms : Type 0
TextsReadByForms = (hidden : List (Symbol Name)) → IsNotation hidden → (ls : List LineText)
    → AreRead hidden ls (lines_read hidden ls)
