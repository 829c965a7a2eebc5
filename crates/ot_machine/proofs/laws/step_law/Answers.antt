use Rattle.ot_logic.specs.Names.{Name}
use Rattle.ot_machine.specs.Writable.{IsWritable}
use Rattle.ot_machine.proofs.NamedAll.{all-named}
use Rattle.ot_machine.proofs.WritableNames.{writable-version_5}
use Rattle.ot_machine.proofs.StepLawful.{step-lawful}
use Rattle.ot_machine.proofs.laws.step_law.Goals as goal

pub returns-clause-named : goal.returns-clause-named
returns-clause-named c = step-lawful (λ (n : Name). Unit {0}) all-named

pub returns-clause-written : goal.returns-clause-written
returns-clause-written c = step-lawful IsWritable writable-version_5
