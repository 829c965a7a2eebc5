use Rattle.std.proofs.Common.{◌+◌, ◌*◌}
use Rattle.ot_log_rules.proofs.parts.Parts.+terms.Given as goal

abbrev pub decreases-add_term : goal.decreases-add_term
decreases-add_term l = 2 * l.id + 1

abbrev pub decreases-add_node : goal.decreases-add_node
decreases-add_node l = 2 * l.id
