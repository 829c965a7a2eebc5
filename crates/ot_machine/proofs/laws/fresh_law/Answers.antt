use Rattle.ot_logic.specs.Names.{Name}
use Rattle.ot_machine.specs.Writable.{IsWritable}
use Rattle.ot_machine.proofs.RunLawful.{fresh-lawful}
use Rattle.ot_machine.proofs.laws.fresh_law.Goals as goal

pub returns-clause-named : goal.returns-clause-named
returns-clause-named c = fresh-lawful (λ (n : Name). Unit {0})

pub returns-clause-written : goal.returns-clause-written
returns-clause-written c = fresh-lawful IsWritable
