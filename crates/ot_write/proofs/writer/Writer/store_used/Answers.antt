use Rattle.ot_trace.specs.Origins as o
use Rattle.ot_trace.specs.Trace.{origin_at}
use Rattle.ot_write.proofs.Moving.{theorem-used, theorem-unused}
use Rattle.ot_write.proofs.writer.Writer.store_used.Goals as goal

pub returns-in-Some-clause-moves : goal.returns-in-Some-clause-moves
returns-in-Some-clause-moves c = λ ns. theorem-used c.args.trace.now c.requires.ready.table c.args.counts.now
    (o.Outcome c.args.place (origin_at c.args.trace.now c.args.id)) c.store_from.result c.in-Some.theorem
    c.in-Some.ensures.some ns _ c.store_from.new.self (c.store_from.ensures.moves ns)

pub returns-clause-moves : goal.returns-clause-moves
returns-clause-moves c = λ ns. theorem-unused c.args.trace.now c.requires.ready.table c.args.counts.now
    (o.Outcome c.args.place (origin_at c.args.trace.now c.args.id)) c.in-None.ensures.none ns _
