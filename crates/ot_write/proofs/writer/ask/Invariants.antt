use Rattle.std.proofs.Common.{◌≡◌, ◌≤◌, ◌++◌, ◌∷◌, [], length, map, reverse, drop}
use Rattle.ot_write.specs.declared.writer.Task.TheVariants as task
use Rattle.ot_write.proofs.writer.ask.Given as goal

abbrev pub invariant-loop-left : goal.invariant-loop-left
invariant-loop-left l = record {
  in_range : l.left ≤ length l.operands;
  asked : l.work.items ≡ (l.fn.work.items ++ task.Close l.fn.id ∷ [])
      ++ reverse (map task.Write (drop l.left l.operands));
}

abbrev pub decreases-loop-left : goal.decreases-loop-left
decreases-loop-left l = l.left
