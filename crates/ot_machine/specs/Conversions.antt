-- The machine's faults for those of the calls below it.
use Rattle.std.specs.Prelude.{ℕ}
use Rattle.ot_type.specs.declared.fault.TableFault.{TableFault}
use Rattle.ot_type.specs.declared.fault.TableFault.TheVariants as types
use Rattle.ot_term.specs.declared.term.TermFault.{TermFault}
use Rattle.ot_term.specs.declared.term.TermFault.TheVariants as terms
use Rattle.ot_define.specs.declared.fault.DefineFault.{DefineFault}
use Rattle.ot_define.specs.declared.fault.DefineFault.TheVariants as definitions
use Rattle.ot_kernel.specs.declared.fault.RuleFault.{RuleFault}
use Rattle.ot_kernel.specs.declared.fault.RuleFault.TheVariants as rules
use Rattle.ot_scan.specs.declared.fault.ScanFault.{ScanFault}
use Rattle.ot_scan.specs.declared.fault.ScanFault.TheVariants as lines
use Rattle.ot_scan.specs.declared.words.WordFault.{WordFault}
use Rattle.ot_scan.specs.declared.words.WordFault.TheVariants as words
use Rattle.ot_machine.specs.declared.fault.ArticleFault.{ArticleFault}
use Rattle.ot_machine.specs.declared.fault.ArticleFault.TheVariants.{At, ReadFault, Memory}
use Rattle.ot_machine.specs.declared.fault.Fault.{Fault}
use Rattle.ot_machine.specs.declared.fault.Fault.TheVariants as code

abbrev pub table_fault : TableFault → Fault
table_fault types.Nesting = code.Nesting
table_fault (types.Memory memory) = code.Memory memory

abbrev pub term_fault : TermFault → Fault
term_fault terms.NotFunction = code.NotFunction
term_fault terms.ArgumentType = code.ArgumentType
term_fault terms.Nesting = code.Nesting
term_fault (terms.Memory memory) = code.Memory memory

abbrev pub define_fault : DefineFault → Fault
define_fault definitions.BadDefinitionList = code.BadDefinitionList
define_fault definitions.HypothesesPresent = code.HypothesesPresent
define_fault definitions.NotApplication = code.NotApplication
define_fault definitions.BadTypeVars = code.BadTypeVars
define_fault (definitions.Primitive s) = code.Primitive s
define_fault (definitions.AlreadyDefined s) = code.AlreadyDefined s
define_fault (definitions.SymbolInUse s) = code.SymbolInUse s
define_fault definitions.NotClosed = code.NotClosed
define_fault definitions.TypeVarEscapes = code.TypeVarEscapes
define_fault (definitions.Memory memory) = code.Memory memory

abbrev pub rule_fault : RuleFault → Fault
rule_fault rules.NotBool = code.NotBool
rule_fault rules.NotEquation = code.NotEquation
rule_fault rules.NotAlphaEqual = code.NotAlphaEqual
rule_fault rules.NotFunction = code.NotFunction
rule_fault rules.ArgumentType = code.ArgumentType
rule_fault rules.VarFreeInHyps = code.VarFreeInHyps
rule_fault rules.NotRedex = code.NotRedex
rule_fault rules.Nesting = code.Nesting
rule_fault (rules.Define e) = define_fault e
rule_fault (rules.Memory memory) = code.Memory memory

abbrev pub word_fault : WordFault → Fault
word_fault words.UnknownCommand = code.UnknownCommand
word_fault words.BadName = code.BadName
word_fault words.BadNumber = code.BadNumber
word_fault words.NumberRange = code.NumberRange

-- what stops the lines of an article
abbrev pub article_fault : ScanFault → ArticleFault
article_fault (lines.LineTooLong number) = At number code.LineTooLong
article_fault (lines.ArticleTooLong number) = At number code.ArticleTooLong
article_fault lines.ReadFault = ReadFault

-- the fault of a line, where memory didn't run out
abbrev pub refusal : ℕ → Fault → ArticleFault
refusal line (code.Memory memory) = Memory memory
refusal line fault = At line fault
