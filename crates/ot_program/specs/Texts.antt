-- The lines on standard error, with the text of each fault.
use Rattle.std.specs.Prelude.{ℕ, List, [], ◌∷◌, ◌++◌, codes}
use Rattle.std.specs.List.{concat}
use Rattle.std.specs.Fmt.{decimal, signed_decimal}
use Rattle.ot_logic.specs.Names.{Name, spelled}
use Rattle.ot_logic.specs.Trees.{Symbol, ConSymbol, OpSymbol}
use Rattle.ot_logic.specs.declared.kind.Kind.{Kind}
use Rattle.ot_logic.specs.declared.kind.Kind.TheVariants as kinds
use Rattle.ot_theory.specs.declared.fault.TheoryFault.{TheoryFault}
use Rattle.ot_theory.specs.declared.fault.TheoryFault.TheVariants as theory
use Rattle.ot_blocks.specs.declared.fault.StructureFault.{StructureFault}
use Rattle.ot_blocks.specs.declared.fault.StructureFault.TheVariants as structure
use Rattle.ot_forms.specs.declared.fault.TextFault.{TextFault}
use Rattle.ot_forms.specs.declared.fault.TextFault.TheVariants as readable
use Rattle.ot_repo.specs.Required.{Refusal}
use Rattle.ot_repo.specs.Required as repo
use Rattle.ot_link.specs.Stops.{Stop, InArticle, InTheory, InStructure, TooLarge, Missing}
use Rattle.ot_log_format.specs.Tokens.{LogFault}
use Rattle.ot_log_format.specs.Tokens as log
use Rattle.ot_logic.specs.Faults.{Fault, LineTooLong, ArticleTooLong, UnknownCommand, BadName, BadNumber}
use Rattle.ot_logic.specs.Faults.{NumberRange, VersionUnsupported, VersionLate, StackEmpty, WrongKind}
use Rattle.ot_logic.specs.Faults.{NoEntry, EmptyList, NotFunction, ArgumentType, NotBool, NotEquation}
use Rattle.ot_logic.specs.Faults.{NotAlphaEqual, VarFreeInHyps, NotRedex, BadSubst, ExportMismatch}
use Rattle.ot_logic.specs.Faults.{Primitive, AlreadyDefined, SymbolInUse, NotClosed, TypeVarEscapes}
use Rattle.ot_logic.specs.Faults.{BadDefinitionList, HypothesesPresent, NotApplication, BadTypeVars, Nesting}

-- how a kind is called
abbrev pub kind_text : Kind → List ℕ
kind_text kinds.Num = codes "number"
kind_text kinds.Name = codes "name"
kind_text kinds.List = codes "list"
kind_text kinds.TyOp = codes "type operator"
kind_text kinds.Ty = codes "type"
kind_text kinds.Con = codes "constant"
kind_text kinds.Var = codes "variable"
kind_text kinds.Tm = codes "term"
kind_text kinds.Thm = codes "theorem"

-- a symbol: which of the two it is, and how its name is spelled
abbrev pub symbol_text : Symbol Name → List ℕ
symbol_text (ConSymbol n) = codes "const " ++ spelled n
symbol_text (OpSymbol n) = codes "type " ++ spelled n

-- the text of a fault
abbrev pub fault_text : Fault Name → List ℕ
fault_text LineTooLong = codes "line longer than 65535 bytes"
fault_text ArticleTooLong = codes "article longer than 4294967296 bytes"
fault_text UnknownCommand = codes "unknown command"
fault_text BadName = codes "bad name"
fault_text BadNumber = codes "bad number"
fault_text NumberRange = codes "number out of range"
fault_text (VersionUnsupported k) = codes "version " ++ signed_decimal k ++ codes " unsupported"
fault_text VersionLate = codes "version command in a wrong place"
fault_text StackEmpty = codes "stack empty"
fault_text (WrongKind wanted found) = codes "wanted " ++ kind_text wanted ++ codes ", found " ++ kind_text found
fault_text (NoEntry k) = codes "no entry " ++ signed_decimal k
fault_text EmptyList = codes "empty list"
fault_text NotFunction = codes "not a function"
fault_text ArgumentType = codes "argument of another type"
fault_text NotBool = codes "not of type bool"
fault_text NotEquation = codes "not an equation"
fault_text NotAlphaEqual = codes "terms differ"
fault_text VarFreeInHyps = codes "variable free in a hypothesis"
fault_text NotRedex = codes "not a beta redex"
fault_text BadSubst = codes "bad substitution list"
fault_text ExportMismatch = codes "theorem differs from the stated sequent"
fault_text (Primitive s) = codes "primitive symbol " ++ symbol_text s
fault_text (AlreadyDefined s) = symbol_text s ++ codes " is defined already"
fault_text (SymbolInUse s) = symbol_text s ++ codes " is in use"
fault_text NotClosed = codes "free variable in a definition"
fault_text TypeVarEscapes = codes "type variable not in the type of the constant"
fault_text BadDefinitionList = codes "definition list and hypotheses disagree"
fault_text HypothesesPresent = codes "theorem has hypotheses"
fault_text NotApplication = codes "conclusion is not an application"
fault_text BadTypeVars = codes "bad type variable list"
fault_text Nesting = codes "nested deeper than 4096"

-- the text of a fault in the grammar of a theory file
abbrev pub theory_fault_text : TheoryFault → List ℕ
theory_fault_text theory.BadLine = codes "bad line"
theory_fault_text theory.BadBlock = codes "bad block"
theory_fault_text theory.DuplicateBlock = codes "duplicate block"
theory_fault_text theory.TwoSources = codes "second article or package"
theory_fault_text theory.NoMain = codes "no block main"
theory_fault_text theory.BadInterpret = codes "bad interpretation"
theory_fault_text theory.DuplicateInterpret = codes "duplicate interpretation"

-- the text of a fault in what the blocks of a theory file ask for
abbrev pub structure_fault_text : StructureFault → List ℕ
structure_fault_text structure.UnknownImport = codes "unknown import"
structure_fault_text structure.BadPackageName = codes "bad package name"
structure_fault_text structure.ImportCycle = codes "import cycle"
structure_fault_text structure.PackageCycle = codes "package cycle"
structure_fault_text structure.PackageDepth = codes "packages nested deeper than 16"

-- the line for a text about a path
abbrev pub line_of : List ℕ → List ℕ → List ℕ
line_of path text = concat (codes "opentheory: " ∷ path ∷ codes ": " ∷ text ∷ codes "\n" ∷ [])

-- the line for a text about a line of the file of a path
abbrev pub line_at : List ℕ → ℕ → List ℕ → List ℕ
line_at path number text =
    concat (codes "opentheory: " ∷ path ∷ codes ":" ∷ decimal number ∷ codes ": " ∷ text ∷ codes "\n" ∷ [])

-- the line for a fault at a line of the article of a path
abbrev pub fault_line : List ℕ → ℕ → Fault Name → List ℕ
fault_line path number fault = line_at path number (fault_text fault)

-- the text of a fault in a proof log
abbrev pub log_fault_text : LogFault → List ℕ
log_fault_text log.LineTooLong = codes "line longer than 65535 bytes"
log_fault_text log.LogTooLong = codes "log longer than 4294967296 bytes"
log_fault_text log.BadToken = codes "bad token"
log_fault_text log.BadHeader = codes "bad log header"
log_fault_text log.UnknownRecord = codes "unknown record"
log_fault_text log.BadReference = codes "no such number"
log_fault_text log.BadStep = codes "step does not follow"
log_fault_text log.LogNesting = codes "nested deeper than 4128"
log_fault_text log.LogEnds = codes "log ends early"

-- the line for a fault at a line of the log of a path
abbrev pub log_line : List ℕ → ℕ → LogFault → List ℕ
log_line path number fault = line_at path number (log_fault_text fault)

-- the text of a fault in a line of readable text
abbrev pub reading_fault_text : TextFault → List ℕ
reading_fault_text readable.Syntax = codes "cannot be read"
reading_fault_text readable.TooManyOpen = codes "too many open"
reading_fault_text readable.Unbound = codes "unbound name"
reading_fault_text readable.UnknownOperator = codes "unknown operator"
reading_fault_text readable.BadTypes = codes "types do not fit"
reading_fault_text readable.TooDeep = codes "nested deeper than 4096"

-- the line for such a fault at a column of a line of the text of a path
abbrev pub column_line : List ℕ → (number column : ℕ) → TextFault → List ℕ
column_line path number column fault =
    concat (codes "opentheory: " ∷ path ∷ codes ":" ∷ decimal number ∷ codes ":" ∷ decimal column ∷ codes ": "
    ∷ reading_fault_text fault ∷ codes "\n" ∷ [])

-- the line for a readable text that is too large
abbrev pub large_text_line : List ℕ → List ℕ
large_text_line path = line_of path (codes "text longer than 1048576 bytes")

-- the line of a theory file that is too large
abbrev pub large_theory_line : List ℕ → List ℕ
large_theory_line path = line_of path (codes "theory longer than 1048576 bytes")

-- the line for a summary that is too large
abbrev pub large_line : List ℕ → List ℕ
large_line path = line_of path (codes "summary larger than 67108864 bytes")

-- and for a written article
abbrev pub large_article_line : List ℕ → List ℕ
large_article_line path = line_of path (codes "written article larger than 4294967296 bytes")

-- and for a proof log that is written
abbrev pub large_log_line : List ℕ → List ℕ
large_log_line path = line_of path (codes "proof log larger than 4294967296 bytes")

-- the line for a file that isn't there
abbrev pub missing_line : List ℕ → List ℕ
missing_line path = line_of path (codes "no such file")

-- the line for a run that stops so, with the path of the file that has the fault
abbrev pub stop_line : Stop → List ℕ
stop_line (InArticle path number fault) = fault_line path number fault
stop_line (InTheory path number fault) = line_at path number (theory_fault_text fault)
stop_line (InStructure path number fault) = line_at path number (structure_fault_text fault)
stop_line (TooLarge path) = large_theory_line path
stop_line (Missing path) = missing_line path

-- the line for packages that are refused so
abbrev pub required_line : Refusal → List ℕ
required_line (repo.Theory path number fault) = line_at path number (theory_fault_text fault)
required_line (repo.TheoryTooLarge path) = large_theory_line path
required_line (repo.IndexTooLarge path) = line_of path (codes "package list longer than 1048576 bytes")
required_line (repo.BadIndex path number) = line_at path number (codes "bad package name")
required_line (repo.NotInstalled path number) = line_at path number (codes "required package not installed")
required_line (repo.RequiresCycle path number) = line_at path number (codes "requires cycle")
required_line (repo.Missing path) = missing_line path

-- the line for an input that failed
abbrev pub read_fault_line : List ℕ → List ℕ
read_fault_line path = line_of path (codes "read fault")

-- the line for words that are no command
abbrev pub usage_line : List ℕ
usage_line =
    codes "usage: opentheory check|info|link|minimise [--packages DIR] INPUT; info also takes --assumptions --definitions --theorems; opentheory sample [--article] N; opentheory info --uses INPUT; opentheory info --readable INPUT; opentheory read INPUT TEXT; opentheory prove INPUT; opentheory verify LOG; opentheory find PATTERN INPUT\n"

abbrev pub write_fault_line : List ℕ
write_fault_line = codes "opentheory: write fault\n"

abbrev pub memory_line : List ℕ
memory_line = codes "opentheory: out of memory\n"
