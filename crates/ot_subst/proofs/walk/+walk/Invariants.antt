use Rattle.std.proofs.Common.{suc, max, ◌+◌, ◌*◌}
use Rattle.ot_subst.specs.Memory.{above}
use Rattle.ot_subst.proofs.walk.+walk.Given as goal

abbrev pub decreases-abstraction : goal.decreases-abstraction
decreases-abstraction g l = 3 * suc l.body

abbrev pub decreases-application : goal.decreases-application
decreases-application g l = 3 * suc (max l.f l.x)

abbrev pub decreases-image_of_node : goal.decreases-image_of_node
decreases-image_of_node g l = 3 * above l.node + 1

abbrev pub decreases-walk : goal.decreases-walk
decreases-walk g l = 3 * l.id + 2
