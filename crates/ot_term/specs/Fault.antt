-- Refusals of terms.
use Rattle.ot_type.specs.declared.fault.TableFault.{TableFault}
use Rattle.ot_type.specs.declared.fault.TableFault.TheVariants as of_types
use Rattle.ot_term.specs.declared.term.TermFault.{TermFault}
use Rattle.ot_term.specs.declared.term.TermFault.TheVariants.{Nesting, Memory}

-- the refusal of a term whose type is refused
abbrev pub term_fault : TableFault → TermFault
term_fault of_types.Nesting = Nesting
term_fault (of_types.Memory memory) = Memory memory
