use Rattle.std.proofs.Common.{◌+◌, ◌*◌}
use Rattle.ot_sets.proofs.table.Sets.+join.Given as goal

abbrev pub decreases-join : goal.decreases-join
decreases-join l = 4 * (l.a + l.b) + 3

abbrev pub decreases-join_full : goal.decreases-join_full
decreases-join_full l = 4 * (l.a + l.b) + 2

abbrev pub decreases-join_nodes : goal.decreases-join_nodes
decreases-join_nodes l = 4 * (l.a + l.b) + 1

abbrev pub decreases-join_halves : goal.decreases-join_halves
decreases-join_halves l = 4 * (l.a + l.b)
