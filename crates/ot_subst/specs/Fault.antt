-- Refusals.
use Rattle.ot_type.specs.declared.fault.TableFault.{TableFault}
use Rattle.ot_type.specs.declared.fault.TableFault.TheVariants as of_table
use Rattle.ot_subst.specs.declared.fault.SubstFault.{SubstFault}
use Rattle.ot_subst.specs.declared.fault.SubstFault.TheVariants.{Nesting, Memory}

-- the refusal of a substitution whose result the table refuses
abbrev pub subst_fault : TableFault → SubstFault
subst_fault of_table.Nesting = Nesting
subst_fault (of_table.Memory memory) = Memory memory
