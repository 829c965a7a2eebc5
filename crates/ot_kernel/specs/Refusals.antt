-- The refusals of rules for those of the tables below.
use Rattle.ot_type.specs.declared.fault.TableFault.{TableFault}
use Rattle.ot_type.specs.declared.fault.TableFault.TheVariants as types
use Rattle.ot_term.specs.declared.term.TermFault.{TermFault}
use Rattle.ot_term.specs.declared.term.TermFault.TheVariants as terms
use Rattle.ot_subst.specs.declared.fault.SubstFault.{SubstFault}
use Rattle.ot_subst.specs.declared.fault.SubstFault.TheVariants as substitutions
use Rattle.ot_define.specs.declared.fault.DefineFault.{DefineFault}
use Rattle.ot_define.specs.declared.fault.DefineFault.TheVariants as definitions
use Rattle.ot_kernel.specs.declared.fault.RuleFault.{RuleFault}
use Rattle.ot_kernel.specs.declared.fault.RuleFault.TheVariants as rules

abbrev pub of_table : TableFault → RuleFault
of_table types.Nesting = rules.Nesting
of_table (types.Memory memory) = rules.Memory memory

abbrev pub of_term : TermFault → RuleFault
of_term terms.NotFunction = rules.NotFunction
of_term terms.ArgumentType = rules.ArgumentType
of_term terms.Nesting = rules.Nesting
of_term (terms.Memory memory) = rules.Memory memory

abbrev pub of_subst : SubstFault → RuleFault
of_subst substitutions.Nesting = rules.Nesting
of_subst substitutions.NotRedex = rules.NotRedex
of_subst (substitutions.Memory memory) = rules.Memory memory

abbrev pub of_define : DefineFault → RuleFault
of_define (definitions.Memory memory) = rules.Memory memory
of_define e = rules.Define e
