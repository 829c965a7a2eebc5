use Rattle.ot_log.specs.Keeping.{IsWriter}
use Rattle.ot_log.specs.Ready.{Knows}
use Rattle.ot_log.specs.Working.{AreTasks, CanDoAll, rest, total}
use Rattle.ot_log.proofs.Worked.{Leads}
use Rattle.ot_log.proofs.writer.Writer.run.Given as goal

abbrev pub invariant-tasks : goal.invariant-tasks
invariant-tasks l = record {
  writer : IsWriter l.session l.self;
  tasks : AreTasks l.session l.work.items;
  ready : Knows l.session l.self (CanDoAll l.session l.work.items);
  so_far : Leads l.session l.fn.self l.self (rest l.session l.work.items) (rest l.session l.fn.work.items);
}

abbrev pub decreases-tasks : goal.decreases-tasks
decreases-tasks l = total l.session l.work.items
