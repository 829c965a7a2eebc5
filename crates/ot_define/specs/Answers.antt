-- What the checks answer, against the conditions.
use Rattle.std.specs.Prelude.{◌≡◌, ◌&&◌, ℕ, List, map, Result, Ok, Err, Option, Some, None}
use Rattle.ot_logic.specs.Trees.{Alphabet, Variable, Named, Tm, Sequent}
use Rattle.std.specs.List.{list_all}
use Rattle.ot_logic.specs.Answers.{◌>>=◌, unless}
use Rattle.ot_logic.specs.NamedTerms.{nameless}
use Rattle.ot_logic.specs.Naming.{numbers}
use Rattle.ot_logic.specs.Faults.{Fault, Primitive, AlreadyDefined, SymbolInUse, NotClosed, TypeVarEscapes}
use Rattle.ot_logic.specs.Faults.{BadDefinitionList, HypothesesPresent, NotApplication, BadTypeVars}
use Rattle.ot_term.specs.TermTable.{term_at}
use Rattle.ot_term.specs.Symbols.{symbol_of}
use Rattle.ot_laws.specs.Conditions.{is_closed, is_closed_but, keeps_type_vars}
use Rattle.ot_define.specs.declared.fault.DefineFault.{DefineFault}
use Rattle.ot_define.specs.declared.fault.DefineFault.TheVariants as code

-- the named fault that a refusal stands for; running out of memory stands for none
abbrev pub define_fault : DefineFault → Option (Fault ℕ)
define_fault code.BadDefinitionList = Some BadDefinitionList
define_fault code.HypothesesPresent = Some HypothesesPresent
define_fault code.NotApplication = Some NotApplication
define_fault code.BadTypeVars = Some BadTypeVars
define_fault (code.Primitive s) = Some (Primitive (symbol_of s))
define_fault (code.AlreadyDefined s) = Some (AlreadyDefined (symbol_of s))
define_fault (code.SymbolInUse s) = Some (SymbolInUse (symbol_of s))
define_fault code.NotClosed = Some NotClosed
define_fault code.TypeVarEscapes = Some TypeVarEscapes
define_fault (code.Memory memory) = None

-- the check's answer is the stated one; running out of memory may be answered at any point
abbrev pub Checks : Result (Unit {0}) DefineFault → Result (Unit {0}) (Fault ℕ) → Type 0
Checks (Ok u) stated = stated ≡ Ok tt
Checks (Err e) stated = (f : Fault ℕ) → define_fault e ≡ Some f → stated ≡ Err f

-- the nameless form of a term of the table
abbrev pub tm_at : List (Named ℕ) → ℕ → Tm ℕ
tm_at ts i = nameless numbers (term_at ts i)

-- the sequent of these terms
abbrev pub sequent_at : List (Named ℕ) → List ℕ → ℕ → Sequent ℕ
sequent_at ts hyps concl = record { hyps = map (tm_at ts) hyps; concl = tm_at ts concl }

-- the last conditions of a list of constants, of the terms that the variables are given and the conclusion
abbrev pub checked_given : Alphabet ℕ → List (Variable ℕ) → List (Tm ℕ) → Tm ℕ → Result (Unit {0}) (Fault ℕ)
checked_given alphabet vs ts concl = do
  _ ← unless NotClosed (list_all (is_closed alphabet) ts && is_closed_but alphabet vs concl)
  unless TypeVarEscapes (list_all (keeps_type_vars alphabet) ts)
