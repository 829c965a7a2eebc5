use Rattle.std.proofs.Common.{sym}
use Rattle.ot_machine.specs.Meaning.{lists_of, article_of}
use Rattle.ot_machine.proofs.Traced.{step-there, step-inside, none-other}
use Rattle.ot_machine.proofs.session.Session.step_on.Goals as goal

pub returns-in-Some-clause-made : goal.returns-in-Some-clause-made
returns-in-Some-clause-made c =
    sym (step-there c.args.self.now (lists_of c.args.self.now c.args.machine.now)
    (article_of c.args.self.now c.args.machine.now).stack c.args.place c.entry_inside-entry.result
    c.entry_inside-entry.ensures.found c.in-Some.step c.in-Some.is)

pub returns-in-Some-clause-inside : goal.returns-in-Some-clause-inside
returns-in-Some-clause-inside c = step-inside c.args.self.now.trace c.entry_inside-entry.result.object
    c.entry_inside-entry.result.step c.in-Some.step c.entry_inside-entry.ensures.inside.step c.in-Some.is

pub unreachable-requires : goal.unreachable-requires
unreachable-requires c = none-other c.args.self.now.trace c.entry_inside-entry.result.object
    c.entry_inside-entry.result.step c.entry_inside-entry.ensures.inside.step c.in-None.is c.in_default.not-Number
