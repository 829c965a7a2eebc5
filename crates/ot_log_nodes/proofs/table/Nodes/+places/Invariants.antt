use Rattle.std.proofs.Common.{◌+◌, ◌*◌}
use Rattle.ot_log_nodes.proofs.table.Nodes.+places.Given as goal

abbrev pub decreases-places_of : goal.decreases-places_of
decreases-places_of l = 2 * l.id + 1

abbrev pub decreases-places_of_node : goal.decreases-places_of_node
decreases-places_of_node l = 2 * l.id
