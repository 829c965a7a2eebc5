use Rattle.std.proofs.Common.{sym, ap}
use Rattle.ot_machine.specs.Meaning.{origin_or}
use Rattle.ot_machine.proofs.Traced.{no-step, step-inside}
use Rattle.ot_machine.proofs.session.Session.step_of.Goals as goal

pub unreachable-requires : goal.unreachable-requires
unreachable-requires c = no-step c.args.self.now.trace c.args.object c.args.step c.requires.inside c.requires.made
    c.in-None.is

pub returns-clause-origin : goal.returns-clause-origin
returns-clause-origin c = sym (ap (origin_or c.args.self.now c.args.object) c.in-Some.is)

pub returns-clause-inside : goal.returns-clause-inside
returns-clause-inside c = step-inside c.args.self.now.trace c.args.object c.args.step c.in-Some.step c.requires.inside
    c.in-Some.is
