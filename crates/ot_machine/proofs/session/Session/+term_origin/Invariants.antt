use Rattle.std.proofs.Common.{◌+◌, ◌*◌}
use Rattle.ot_machine.proofs.session.Session.+term_origin.Given as goal

abbrev pub decreases-term_origin : goal.decreases-term_origin
decreases-term_origin l = 2 * l.id + 1

abbrev pub decreases-node_origin : goal.decreases-node_origin
decreases-node_origin l = 2 * l.id
