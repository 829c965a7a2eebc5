use Rattle.std.proofs.Common.{◌+◌, ◌*◌}
use Rattle.ot_machine.proofs.makers.occurrences.+is_free.Given as goal

abbrev pub decreases-is_free : goal.decreases-is_free
decreases-is_free l = 2 * l.term + 1

abbrev pub decreases-is_free_below : goal.decreases-is_free_below
decreases-is_free_below l = 2 * l.term
