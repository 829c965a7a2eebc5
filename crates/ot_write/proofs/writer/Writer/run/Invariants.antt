use Rattle.std.proofs.Common.{length}
use Rattle.ot_write.specs.Emitting.{ArePlacesBelow, IsReady, given, rest, total}
use Rattle.ot_write.proofs.Moving.{Leads}
use Rattle.ot_write.proofs.writer.Writer.run.Given as goal

abbrev pub invariant-tasks : goal.invariant-tasks
invariant-tasks l = record {
  ready : IsReady l.trace l.counts l.self;
  inside : ArePlacesBelow (length l.trace) l.work.items;
  so_far : Leads (given l.names l.trace l.counts) l.fn.self l.self
      (rest (given l.names l.trace l.counts) l.work.items) (rest (given l.names l.trace l.counts) l.fn.work.items);
}

abbrev pub decreases-tasks : goal.decreases-tasks
decreases-tasks l = total l.trace l.work.items
