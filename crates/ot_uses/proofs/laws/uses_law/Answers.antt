use Rattle.ot_machine.specs.Writable.{IsWritable}
use Rattle.ot_uses.proofs.Using.{uses_suffice}
use Rattle.ot_uses.proofs.laws.uses_law.Goals as goal

pub returns-clause-named : goal.returns-clause-named
returns-clause-named c = uses_suffice (λ n. Unit {0})

pub returns-clause-written : goal.returns-clause-written
returns-clause-written c = uses_suffice IsWritable
