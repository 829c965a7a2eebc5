use Rattle.std.proofs.Common.{List}
use Rattle.ot_logic.specs.Names.{Name}
use Rattle.ot_written.specs.Written as w
use Rattle.ot_trace.specs.Trace.{origin_at}
use Rattle.ot_write.specs.Emitting.{IsReady, given, keep, used, same}
use Rattle.ot_write.proofs.Moving.{Leads}
use Rattle.ot_write.proofs.writer.Writer.store_theorems.Given as goal

abbrev pub invariant-loop-left : goal.invariant-loop-left
invariant-loop-left l = record {
  ready : IsReady l.trace l.counts l.self;
  so_far : (ns : List Name) → Leads (given ns l.trace l.counts) l.fn.self l.self
      (w.outcomes same (keep (given ns l.trace l.counts)) (used (given ns l.trace l.counts)) (origin_at l.trace l.id)
      l.left)
      (w.outcomes same (keep (given ns l.trace l.counts)) (used (given ns l.trace l.counts)) (origin_at l.trace l.id)
      l.count);
}

abbrev pub decreases-loop-left : goal.decreases-loop-left
decreases-loop-left l = l.left
