use Rattle.std.proofs.Common.{◌+◌, ◌*◌, length}
use Rattle.ot_log_nodes.specs.Lists.{list_at}
use Rattle.ot_log_nodes.proofs.table.lists.Lists.+union.Given as goal

abbrev pub decreases-union : goal.decreases-union
decreases-union l = 2 * (length (list_at l.self.now l.left) + length (list_at l.self.now l.right)) + 1

abbrev pub decreases-union_of : goal.decreases-union_of
decreases-union_of l =
    2 * (length (list_at l.self.now l.first.rest) + length (list_at l.self.now l.second.rest)) + 4
