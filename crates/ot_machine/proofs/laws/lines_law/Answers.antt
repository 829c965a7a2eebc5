use Rattle.ot_logic.specs.Names.{Name}
use Rattle.ot_machine.specs.Writable.{IsWritable}
use Rattle.ot_machine.proofs.NamedAll.{all-named}
use Rattle.ot_machine.proofs.WritableNames.{writable-version_5, writable-said}
use Rattle.ot_machine.proofs.RunLawful.{lines-lawful}
use Rattle.ot_machine.proofs.laws.lines_law.Goals as goal

pub returns-clause-named : goal.returns-clause-named
returns-clause-named c = lines-lawful (λ (n : Name). Unit {0}) all-named

pub returns-clause-written : goal.returns-clause-written
returns-clause-written c = lines-lawful IsWritable writable-version_5

pub returns-clause-said : goal.returns-clause-said
returns-clause-said c = writable-said
