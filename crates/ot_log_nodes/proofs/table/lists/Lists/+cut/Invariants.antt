use Rattle.std.proofs.Common.{length}
use Rattle.ot_log_nodes.specs.Lists.{list_at}
use Rattle.ot_log_nodes.proofs.table.lists.Lists.+cut.Given as goal

abbrev pub decreases-cut : goal.decreases-cut
decreases-cut l = length (list_at l.self.now l.places)
