use Rattle.std.proofs.Common.{◌+◌, ◌*◌}
use Rattle.ot_pretty.proofs.terms.+terms_text.Given as goal

abbrev pub decreases-put_term : goal.decreases-put_term
decreases-put_term l = 3 * l.id

abbrev pub decreases-put_front : goal.decreases-put_front
decreases-put_front l = 3 * l.id + 2

abbrev pub decreases-put_spine : goal.decreases-put_spine
decreases-put_spine l = 3 * l.id + 1
