-- What a text is read as, and where it is refused: a line as a sequent, or a text as one term.
use Rattle.std.specs.Prelude.{◌≡◌, ◌≤◌, ◌<◌, ◌⊎◌, ℕ, suc, List, ◌++◌, length, take, Result, Ok, Err}
use Rattle.ot_logic.specs.Names.{Name}
use Rattle.ot_logic.specs.Trees.{Tm, Sequent, Symbol}
use Rattle.ot_forms.specs.declared.fault.TextFault.{TextFault}
use Rattle.ot_forms.specs.declared.fault.TextFault.TheVariants.{Syntax, TooManyOpen, Unbound}
use Rattle.ot_forms.specs.declared.fault.TextFault.TheVariants.{UnknownOperator, BadTypes, TooDeep}
use Rattle.ot_forms.specs.Forms.{Written, IsWritten, most_open, term_text, WrittenSequent, IsLine, line_text}
use Rattle.ot_forms.specs.Meaning.{Refusal, line_meaning, term_meaning}

-- at most so many parentheses and braces are open
abbrev pub open_limit : ℕ
open_limit = 8192

-- ---- what is written, with at most so many open at once

-- the line of a written sequent
pub record WritesLine (hidden : List (Symbol Name)) (limit : ℕ) (line : List ℕ) (q : WrittenSequent) : Type 0 where
  pub form : IsLine limit q
  pub text : line ≡ line_text hidden q

-- the text of a written term
pub record WritesTerm (hidden : List (Symbol Name)) (limit : ℕ) (bytes : List ℕ) (w : Written) : Type 0 where
  pub form : IsWritten w
  pub within : most_open w ≤ limit
  pub text : bytes ≡ term_text hidden w

-- ---- where a text stops being of the forms, where these are the texts of what is written
module _ {A : Type 0} (Writes : ℕ → List ℕ → A → Type 0) where
  -- the front of a text of the forms with at most so many open at once
  pub record IsStart (limit : ℕ) (front : List ℕ) : Type 0 where
    pub rest : List ℕ
    pub value : A
    pub text : Writes limit (front ++ rest) value

  -- the front of a text of the forms, with however many open
  pub record IsFront (front : List ℕ) : Type 0 where
    pub limit : ℕ
    pub start : IsStart limit front

  -- the text isn't of the forms: up to place k it is the front of one, and it ends there or its byte there makes it
  -- none
  pub record IsNoForm (text : List ℕ) (k : ℕ) : Type 0 where
    pub front : IsStart open_limit (take k text)
    pub stop : ((k ≡ length text) × ((limit : ℕ) (a : A) → Writes limit text a → ⊥))
        ⊎ ((k < length text) × (IsFront (take (suc k) text) → ⊥))

  -- the byte at place k opens one more than may be open
  pub record OpensTooMany (text : List ℕ) (k : ℕ) : Type 0 where
    pub within : k < length text
    pub front : IsStart open_limit (take k text)
    pub opens : IsFront (take (suc k) text)
    pub too_many : IsStart open_limit (take (suc k) text) → ⊥

-- ---- what a text of the forms stands for, where this is the meaning of what is written
module _ {A B : Type 0} (Writes : ℕ → List ℕ → A → Type 0) (meant_by : A → Result B Refusal) where
  -- the text stands for this
  pub record StandsFor (text : List ℕ) (b : B) : Type 0 where
    pub written : A
    pub text_of : Writes open_limit text written
    pub meant : meant_by written ≡ Ok b

  -- the text is of the forms, and is refused at place k for what it says
  pub record IsMeantWrong (text : List ℕ) (k : ℕ) (f : TextFault) : Type 0 where
    pub written : A
    pub text_of : Writes open_limit text written
    pub meant : meant_by written ≡ Err (k, f)

  -- the refusal of a text, at its byte from 0
  abbrev pub IsRefusedAs : List ℕ → ℕ → TextFault → Type 0
  IsRefusedAs text k Syntax = IsNoForm Writes text k
  IsRefusedAs text k TooManyOpen = OpensTooMany Writes text k
  IsRefusedAs text k Unbound = IsMeantWrong text k Unbound
  IsRefusedAs text k UnknownOperator = IsMeantWrong text k UnknownOperator
  IsRefusedAs text k BadTypes = IsMeantWrong text k BadTypes
  IsRefusedAs text k TooDeep = IsMeantWrong text k TooDeep

-- ---- lines, and texts of one term of any type
abbrev pub ReadsAs : List (Symbol Name) → List ℕ → Sequent Name → Type 0
ReadsAs hidden = StandsFor (WritesLine hidden) (line_meaning hidden)

abbrev pub IsRefused : List (Symbol Name) → List ℕ → ℕ → TextFault → Type 0
IsRefused hidden = IsRefusedAs (WritesLine hidden) (line_meaning hidden)

abbrev pub ReadsAsTerm : List (Symbol Name) → List ℕ → Tm Name → Type 0
ReadsAsTerm hidden = StandsFor (WritesTerm hidden) (term_meaning hidden)

abbrev pub IsTermRefused : List (Symbol Name) → List ℕ → ℕ → TextFault → Type 0
IsTermRefused hidden = IsRefusedAs (WritesTerm hidden) (term_meaning hidden)
