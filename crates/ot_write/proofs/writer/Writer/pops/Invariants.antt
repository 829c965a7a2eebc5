use Rattle.std.proofs.Common.{◌≡◌}
use Rattle.ot_written.specs.Written as w
use Rattle.ot_write.specs.Emitting.{Given, keep, used, same}
use Rattle.ot_write.proofs.Moving.{Leads}
use Rattle.ot_write.proofs.writer.Writer.pops.Given as goal

abbrev pub invariant-loop-left : goal.invariant-loop-left
invariant-loop-left l = record {
  keys : l.self.keys.items ≡ l.fn.self.keys.items;
  stored : l.self.stored.items ≡ l.fn.self.stored.items;
  so_far : (g : Given) → Leads g l.fn.self l.self (w.pops same (keep g) (used g) l.left)
      (w.pops same (keep g) (used g) l.count);
}

abbrev pub decreases-loop-left : goal.decreases-loop-left
decreases-loop-left l = l.left
