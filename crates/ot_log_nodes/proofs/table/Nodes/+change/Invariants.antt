use Rattle.std.proofs.Common.{◌+◌, ◌*◌}
use Rattle.ot_log_nodes.proofs.table.Nodes.+change.Given as goal

abbrev pub decreases-change_at : goal.decreases-change_at
decreases-change_at l = 2 * l.id + 1

abbrev pub decreases-change_node : goal.decreases-change_node
decreases-change_node l = 2 * l.id
