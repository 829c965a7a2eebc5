-- Faults that are passed on.
use Rattle.std.proofs.Common.{◌≡◌, refl}
use Rattle.ot_type.specs.declared.fault.TableFault.{TableFault}
use Rattle.ot_type.specs.declared.fault.TableFault.TheVariants as of_table
use Rattle.ot_subst.specs.declared.fault.SubstFault.{SubstFault}
use Rattle.ot_subst.specs.declared.fault.SubstFault.TheVariants.{Nesting, Memory}
use Rattle.ot_subst.specs.Fault.{subst_fault}
use Rattle.ot_logic.specs.RanOut.{ran_out}

pub nesting-from : (f : TableFault) → subst_fault f ≡ Nesting → f ≡ of_table.Nesting
nesting-from of_table.Nesting e = refl
nesting-from (of_table.Memory memory) e = absurd (differ e)
  where
    differ : ◌≡◌ {A = SubstFault} (Memory ran_out) Nesting → ⊥
    differ e = cc
