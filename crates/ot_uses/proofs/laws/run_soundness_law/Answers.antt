use Rattle.ot_machine.specs.Writable.{IsWritable}
use Rattle.ot_uses.proofs.Sound.{lawful_is_sound}
use Rattle.ot_uses.proofs.laws.run_soundness_law.Goals as goal

pub returns-clause-named : goal.returns-clause-named
returns-clause-named c = lawful_is_sound (λ n. Unit {0})

pub returns-clause-written : goal.returns-clause-written
returns-clause-written c = lawful_is_sound IsWritable
