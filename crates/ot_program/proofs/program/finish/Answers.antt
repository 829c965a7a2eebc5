use Rattle.std.proofs.Common.{subst}
use Rattle.ot_program.specs.Answer.{WritesLine}
use Rattle.ot_program.proofs.ReplyLemmas.{nothing_written, other_line}
use Rattle.ot_program.proofs.program.finish.Goals as goal

pub returns-in_default-clause-outputs : goal.returns-in_default-clause-outputs
returns-in_default-clause-outputs g c =
    nothing_written g.O.Sink.written g.O.Sink.flushed c.args.out.now g.E.Sink.written g.E.Sink.faults c.args.err.now
    c.say-in_default.new.err c.args.verdict.now.status c.args.verdict.now.text.items c.in_default.not-Accepted c.requires

pub returns-in_default-clause-says : goal.returns-in_default-clause-says
returns-in_default-clause-says g c =
    other_line g.O.Sink.written g.O.Sink.flushed c.args.out.now g.E.Sink.written g.E.Sink.faults c.args.err.now
    c.say-in_default.new.err c.args.verdict.now.status c.args.verdict.now.text.items c.in_default.not-Accepted c.requires
    (subst (WritesLine g.E.Sink.written g.E.Sink.faults c.args.err.now c.say-in_default.new.err)
    c.deref-in_default.ensures.value c.say-in_default.ensures.line)
