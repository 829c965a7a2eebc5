use Rattle.ot_logic.specs.Names.{Name}
use Rattle.ot_machine.specs.Writable.{IsWritable}
use Rattle.ot_machine.proofs.RunLawful.{lawful-stays}
use Rattle.ot_machine.proofs.laws.stays_law.Goals as goal

pub returns-clause-named : goal.returns-clause-named
returns-clause-named c = lawful-stays (λ (n : Name). Unit {0})

pub returns-clause-written : goal.returns-clause-written
returns-clause-written c = lawful-stays IsWritable
