-- The parts of the readable texts of applications.
use Rattle.std.specs.Prelude.{ℕ, Bool, cond, ◌&&◌, List, ◌++◌, codes}
use Rattle.ot_logic.specs.Names.{Name}
use Rattle.ot_logic.specs.Naming.{names}
use Rattle.ot_logic.specs.Trees.{Ty, Tm, App, Symbol, ConSymbol}
use Rattle.ot_logic.specs.Hol.{same_ty}
use Rattle.ot_forms.specs.Words.{is_operator, is_hidden, base}
use Rattle.ot_forms.specs.Forms.{term_text}
use Rattle.ot_forms.specs.Meaning.{relation_ty}
use Rattle.ot_forms.specs.Printing.{written, written_argument, is_relation, operator_of}

-- the text of a term with k abstractions around it
abbrev pub text_at : List (Symbol Name) → ℕ → Tm Name → List ℕ
text_at hidden k t = term_text hidden (written hidden k t)

-- a function and its arguments, with a space before each argument
abbrev pub spine_text : List (Symbol Name) → ℕ → Tm Name → List ℕ
spine_text hidden k (App f x) = spine_text hidden k f ++ codes " " ++ text_at hidden k x
spine_text hidden k t = text_at hidden k t

-- the left side and the operator of a relation, which stand before its right side
abbrev pub half_text : List (Symbol Name) → ℕ → Tm Name → List ℕ
half_text hidden k f = term_text hidden (written_argument hidden k f) ++ codes " " ++ operator_of f ++ codes " "

-- what stands before the argument of a function where the application is no equation
abbrev pub front_text : List (Symbol Name) → ℕ → Tm Name → List ℕ
front_text hidden k f = cond (is_relation hidden f) (half_text hidden k f) (spine_text hidden k f ++ codes " ")

-- a constant that is written between two propositions
abbrev pub is_relation_constant : List (Symbol Name) → Name → Ty Name → Bool
is_relation_constant hidden n t =
    is_hidden hidden (ConSymbol n) && (is_operator (base n) && same_ty names t relation_ty)
