use Rattle.std.proofs.Common.{◌+◌, ◌*◌}
use Rattle.ot_log_nodes.proofs.table.Nodes.+typing.Given as goal

abbrev pub decreases-typing_under : goal.decreases-typing_under
decreases-typing_under l = 2 * l.id + 1

abbrev pub decreases-typing_node : goal.decreases-typing_node
decreases-typing_node l = 2 * l.id
