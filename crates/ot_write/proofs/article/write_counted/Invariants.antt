use Rattle.std.proofs.Common.{take, map}
use Rattle.ot_written.specs.Written as w
use Rattle.ot_trace.specs.Trace.{origin_at}
use Rattle.ot_write.specs.Bytes.{roots_at}
use Rattle.ot_write.specs.Emitting.{IsReady, Shows, given, keep, used, same}
use Rattle.ot_write.proofs.article.write_counted.Given as goal

abbrev pub invariant-loop-id : goal.invariant-loop-id
invariant-loop-id l = record {
  ready : IsReady l.trace l.counts l.writer;
  shows : Shows (given l.names l.trace l.counts) l.max l.writer
      (w.emit_definitions same (keep (given l.names l.trace l.counts)) (used (given l.names l.trace l.counts))
      (map (origin_at l.trace) (take l.id-index l.definitions))
      (w.beginning same (keep (given l.names l.trace l.counts)) (used (given l.names l.trace l.counts))));
}

abbrev pub invariant-loop-export : goal.invariant-loop-export
invariant-loop-export l = record {
  ready : IsReady l.trace l.counts l.writer;
  shows : Shows (given l.names l.trace l.counts) l.max l.writer
      (w.written same (keep (given l.names l.trace l.counts)) (used (given l.names l.trace l.counts))
      (map (origin_at l.trace) l.definitions) (map (roots_at l.trace) (take l.export-index l.exports)));
}
