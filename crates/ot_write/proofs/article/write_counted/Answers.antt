use Rattle.ot_write.specs.Emitting.{given}
use Rattle.ot_write.proofs.Exports.{one-definition, one-export}
use Rattle.ot_write.proofs.article.write_counted.Goals as goal

pub loop-id-preserved : goal.loop-id-preserved
loop-id-preserved c = record {
  ready = c.in_ok-define.ensures.ready;
  shows = one-definition (given c.args.names.now c.args.trace.now c.args.counts.now) c.args.max c.args.definitions.now
      c.loop-id.id-index c.id-item.result c.loop-id.writer c.define.new.self _ c.loop-id-test.true c.id-item.is
      c.loop-id.invariant.shows c.in_ok-define.ensures.moves;
}

pub loop-export-preserved : goal.loop-export-preserved
loop-export-preserved c = record {
  ready = c.in_ok-export.ensures.ready;
  shows = one-export (given c.args.names.now c.args.trace.now c.args.counts.now) c.args.max c.args.exports.now
      c.loop-export.export-index c.export-item.result c.loop-export.writer c.export.new.self _ c.loop-export-test.true
      c.export-item.is c.loop-export.invariant.shows c.in_ok-export.ensures.moves;
}
