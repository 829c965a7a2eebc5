use Rattle.std.proofs.Common.{subst}
use Rattle.ot_machine.specs.Concluding.{GivesTheorem}
use Rattle.ot_machine.proofs.RuleRows.{conclude-refused}
use Rattle.ot_machine.proofs.session.Session.conclude_two.Goals as goal

pub returns-in-Err : goal.returns-in-Err
returns-in-Err c = λ stated given.
    let s = c.args.self.now in
    let refuses = subst (λ r. GivesTheorem s.kernel r stated) c.in-Err.is given in
    rw c.from.ensures
    (conclude-refused s c.args.machine.now 2 c.args.word stated c.in-Err.fault c.requires.of refuses)
