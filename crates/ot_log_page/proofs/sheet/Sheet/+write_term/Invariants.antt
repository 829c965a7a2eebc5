use Rattle.std.proofs.Common.{◌+◌, ◌*◌}
use Rattle.ot_log_page.proofs.sheet.Sheet.+write_term.Given as goal

abbrev pub decreases-write_term : goal.decreases-write_term
decreases-write_term l = l.id * 2 + 1

abbrev pub decreases-write_new_term : goal.decreases-write_new_term
decreases-write_new_term l = l.id * 2
