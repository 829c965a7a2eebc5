use Rattle.std.proofs.Common.{◌≡◌, ◌≤◌, ◌++◌, length, map, reverse, drop}
use Rattle.ot_log.specs.declared.worklist.Task.TheVariants as task
use Rattle.ot_log.proofs.worklist.push_back.Given as goal

abbrev pub invariant-loop-left : goal.invariant-loop-left
invariant-loop-left l = record {
  in_range : l.left ≤ length l.steps;
  asked : l.work.items ≡ l.fn.work.items ++ reverse (map task.Write (drop l.left l.steps));
}

abbrev pub decreases-loop-left : goal.decreases-loop-left
decreases-loop-left l = l.left
