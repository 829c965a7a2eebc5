use Rattle.std.proofs.Common.{◌+◌, ◌*◌}
use Rattle.ot_log_values.proofs.values.Values.+term.Given as goal

abbrev pub decreases-term : goal.decreases-term
decreases-term l = 2 * l.id + 1

abbrev pub decreases-new_term : goal.decreases-new_term
decreases-new_term l = 2 * l.id
