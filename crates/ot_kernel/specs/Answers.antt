-- What the kernel's calls answer, against the rules of the logic.
use Rattle.std.specs.Prelude.{◌≡◌, ◌≢◌, ◌<◌, ℕ, suc, [], ◌∷◌, ◌++◌, length, Result, Ok, Err, Option, Some, None}
use Rattle.ot_logic.specs.Names.{Name}
use Rattle.ot_logic.specs.Trees.{Ty, Tm, Sequent, Definition}
use Rattle.ot_logic.specs.Hol.{theorems}
use Rattle.ot_logic.specs.Naming.{names}
use Rattle.ot_logic.specs.Faults.{Fault, NotFunction, ArgumentType, NotBool, NotEquation, NotAlphaEqual}
use Rattle.ot_logic.specs.Faults.{VarFreeInHyps, NotRedex, Nesting, Primitive, AlreadyDefined, SymbolInUse, NotClosed}
use Rattle.ot_logic.specs.Faults.{TypeVarEscapes, BadDefinitionList, HypothesesPresent, NotApplication, BadTypeVars}
use Rattle.ot_logic.specs.RanOut.{ran_out}
use Rattle.ot_logic.specs.Renamed.{map_symbol}
use Rattle.ot_type.specs.declared.fault.TableFault.{TableFault}
use Rattle.ot_type.specs.declared.fault.TableFault.TheVariants as types
use Rattle.ot_term.specs.declared.term.TermFault.{TermFault}
use Rattle.ot_term.specs.declared.term.TermFault.TheVariants as terms
use Rattle.ot_term.specs.Symbols.{symbol_of}
use Rattle.ot_define.specs.declared.fault.DefineFault.{DefineFault}
use Rattle.ot_define.specs.declared.fault.DefineFault.TheVariants as definitions
use Rattle.ot_kernel.specs.State.{State, name_at, type_at, term_at, theorem_at, SameTheorems}
use Rattle.ot_kernel.specs.Defining.{Defining}
use Rattle.ot_kernel.specs.Axioms.{known, with_sequent, with_theorem}
use Rattle.ot_kernel.specs.declared.fault.RuleFault.{RuleFault}
use Rattle.ot_kernel.specs.declared.fault.RuleFault.TheVariants as rules

-- ---- the named fault that a refusal stands for; running out of memory stands for none

abbrev pub table_fault : TableFault → Option (Fault Name)
table_fault types.Nesting = Some Nesting
table_fault (types.Memory memory) = None

abbrev pub term_fault : TermFault → Option (Fault Name)
term_fault terms.NotFunction = Some NotFunction
term_fault terms.ArgumentType = Some ArgumentType
term_fault terms.Nesting = Some Nesting
term_fault (terms.Memory memory) = None

-- of a definition, whose symbols have the names that the numbers stand for
abbrev pub definition_fault : {N : Type 0} → (ℕ → N) → DefineFault → Option (Fault N)
definition_fault read definitions.BadDefinitionList = Some BadDefinitionList
definition_fault read definitions.HypothesesPresent = Some HypothesesPresent
definition_fault read definitions.NotApplication = Some NotApplication
definition_fault read definitions.BadTypeVars = Some BadTypeVars
definition_fault read (definitions.Primitive s) = Some (Primitive (map_symbol read (symbol_of s)))
definition_fault read (definitions.AlreadyDefined s) = Some (AlreadyDefined (map_symbol read (symbol_of s)))
definition_fault read (definitions.SymbolInUse s) = Some (SymbolInUse (map_symbol read (symbol_of s)))
definition_fault read definitions.NotClosed = Some NotClosed
definition_fault read definitions.TypeVarEscapes = Some TypeVarEscapes
definition_fault read (definitions.Memory memory) = None

-- over any names
abbrev pub rule_fault : {N : Type 0} → (ℕ → N) → RuleFault → Option (Fault N)
rule_fault read rules.NotBool = Some NotBool
rule_fault read rules.NotEquation = Some NotEquation
rule_fault read rules.NotAlphaEqual = Some NotAlphaEqual
rule_fault read rules.NotFunction = Some NotFunction
rule_fault read rules.ArgumentType = Some ArgumentType
rule_fault read rules.VarFreeInHyps = Some VarFreeInHyps
rule_fault read rules.NotRedex = Some NotRedex
rule_fault read rules.Nesting = Some Nesting
rule_fault read (rules.Define e) = definition_fault read e
rule_fault read (rules.Memory memory) = None

-- a refusal is the stated one
abbrev pub Refuses : {X E : Type 0} → (E → Option (Fault Name)) → E → Result X (Fault Name) → Type 0
Refuses fault_of e stated = (f : Fault Name) → fault_of e ≡ Some f → stated ≡ Err f

-- a rule's refusal is the stated one, where numbers stand for these names; running out of memory never comes as a
-- definition's refusal
abbrev pub RefusesBy : {X N : Type 0} → (ℕ → N) → RuleFault → Result X (Fault N) → Type 0
RefusesBy {X} {N} read e stated = (e ≢ rules.Define (definitions.Memory ran_out))
    × ((f : Fault N) → rule_fault read e ≡ Some f → stated ≡ Err f)

-- the same whatever numbers stand for: no rule but a definition names a symbol
abbrev pub RefusesRule : {X N : Type 0} → RuleFault → Result X (Fault N) → Type 0
RefusesRule {X} {N} e stated = (read : ℕ → N) → RefusesBy read e stated

-- the symbol that a refusal of a definition names, where it names one, is of a kernel with n names
abbrev pub IsDefinedIn : ℕ → DefineFault → Type 0
IsDefinedIn n (definitions.Primitive s) = s.name < n
IsDefinedIn n (definitions.AlreadyDefined s) = s.name < n
IsDefinedIn n (definitions.SymbolInUse s) = s.name < n
IsDefinedIn n e = Unit {0}

-- the same of a rule's refusal: no rule but a definition names a symbol
abbrev pub IsSymbolIn : ℕ → RuleFault → Type 0
IsSymbolIn n (rules.Define e) = IsDefinedIn n e
IsSymbolIn n e = Unit {0}

-- the number of a type that a rule makes
abbrev pub MakesType : Result ℕ TableFault → Result (Ty Name) (Fault Name) → State → Type 0
MakesType (Ok id) stated new = (id < length new.types) × (stated ≡ Ok (type_at new id))
MakesType (Err e) stated new = Refuses table_fault e stated

-- the number of a term that a rule makes
abbrev pub MakesTerm : Result ℕ TermFault → Result (Tm Name) (Fault Name) → State → Type 0
MakesTerm (Ok id) stated new = (id < length new.terms) × (stated ≡ Ok (term_at new id))
MakesTerm (Err e) stated new = Refuses term_fault e stated

-- the number of an abstraction that a rule makes
abbrev pub MakesAbstraction : Result ℕ TableFault → Result (Tm Name) (Fault Name) → State → Type 0
MakesAbstraction (Ok id) stated new = (id < length new.terms) × (stated ≡ Ok (term_at new id))
MakesAbstraction (Err e) stated new = Refuses table_fault e stated

-- the number of a theorem that a rule gives, which stands at the end; after a refusal the theorems are as before
abbrev pub Concludes : Result ℕ RuleFault → Result (Sequent Name) (Fault Name) → State → State → Type 0
Concludes (Ok id) stated old new = (q : Sequent Name) × (stated ≡ Ok q) × (new.theorems ≡ old.theorems ++ q ∷ [])
    × (id ≡ length old.theorems)
Concludes (Err e) stated old new = (new.theorems ≡ old.theorems) × RefusesRule e stated

-- the number of the assumption that an axiom gives, which stands at the end of the assumptions and the theorems where
-- it is new
abbrev pub Assumes : Result ℕ RuleFault → Result (Sequent Name) (Fault Name) → State → State → Type 0
Assumes (Ok id) stated old new = (q : Sequent Name) × (stated ≡ Ok q) × (id < length new.theorems)
    × (theorem_at new id ≡ known old.assumptions q)
    × (new.assumptions ≡ with_sequent old.assumptions q) × (new.definitions ≡ old.definitions)
    × (new.theorems ≡ with_theorem old.theorems old.assumptions q)
Assumes (Err e) stated old new = SameTheorems old new × RefusesRule e stated

-- the number of the theorem of a definition, which both stand at the end; after a refusal all is as before
abbrev pub Defines : Result ℕ RuleFault → Defining names → State → State → Type 0
Defines (Ok id) stated old new = (d : Definition Name) × (stated ≡ Ok d)
    × (new.definitions ≡ old.definitions ++ d ∷ []) × (new.theorems ≡ old.theorems ++ theorems names d)
    × (id ≡ length old.theorems) × (new.assumptions ≡ old.assumptions)
Defines (Err e) stated old new = SameTheorems old new × RefusesBy (name_at new) e stated

-- the numbers of the two theorems of a type
abbrev pub DefinesType : Result (ℕ × ℕ) RuleFault → Defining names → State → State → Type 0
DefinesType (Ok ids) stated old new =
    (d : Definition Name) × (stated ≡ Ok d) × (new.definitions ≡ old.definitions ++ d ∷ [])
    × (new.theorems ≡ old.theorems ++ theorems names d) × (ids.0 ≡ length old.theorems)
    × (ids.1 ≡ suc (length old.theorems)) × (new.assumptions ≡ old.assumptions)
DefinesType (Err e) stated old new = SameTheorems old new × RefusesBy (name_at new) e stated
