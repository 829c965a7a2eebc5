use Rattle.std.proofs.Common.{◌+◌, ◌*◌, max}
use Rattle.ot_sets.proofs.table.Sets.+adding.Given as goal

abbrev pub decreases-push_added : goal.decreases-push_added
decreases-push_added l = 2 * (l.known + l.set)

abbrev pub decreases-push_halves : goal.decreases-push_halves
decreases-push_halves l = 2 * (l.known + max l.first l.second) + 1
