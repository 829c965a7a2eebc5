use Rattle.ot_write.proofs.Moving.{stored-one, stored-none}
use Rattle.ot_write.proofs.writer.Writer.store_from.Goals as goal

pub returns-in_ok-store-clause-moves : goal.returns-in_ok-store-clause-moves
returns-in_ok-store-clause-moves c =
    λ ns. stored-one c.args.trace.now c.requires.ready.table c.args.counts.now c.requires.ready.counted c.args.id
    c.requires.inside _ c.index-at.ensures c.args.least c.if-counts-at.true ns _ _
    (c.in_ok-store.ensures.moves ns c.args.counts.now)

pub returns-else-counts-at-clause-moves : goal.returns-else-counts-at-clause-moves
returns-else-counts-at-clause-moves c = λ ns. stored-none c.args.trace.now c.requires.ready.table c.args.counts.now
    c.requires.ready.counted c.args.id c.requires.inside _ c.index-at.ensures c.args.least c.if-counts-at.false ns _
