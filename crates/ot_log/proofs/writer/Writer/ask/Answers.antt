use Rattle.std.proofs.Common.{sym, ◌∙◌}
use Rattle.ot_log.proofs.Worked.{replaces-known, cheaper-same}
use Rattle.ot_log.proofs.writer.Writer.ask.Goals as goal

pub returns-in-Some-clause-moves : goal.returns-in-Some-clause-moves
returns-in-Some-clause-moves c = replaces-known c.args.session.now c.args.self.now c.args.work.now.items c.args.id _
    c.requires.task.inside (sym c.number.ensures ∙ c.in-Some.is)

pub returns-in-Some-clause-cheaper : goal.returns-in-Some-clause-cheaper
returns-in-Some-clause-cheaper c = cheaper-same c.args.session.now c.args.work.now.items c.args.id
