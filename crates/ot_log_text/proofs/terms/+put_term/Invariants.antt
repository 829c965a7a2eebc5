use Rattle.ot_logic.specs.Naming.{names}
use Rattle.ot_logic.specs.Hol.{depth_tm}
use Rattle.ot_log_nodes.specs.Items.{term_at}
use Rattle.ot_log_text.proofs.terms.+put_term.Given as goal

abbrev pub decreases-put_term : goal.decreases-put_term
decreases-put_term l = depth_tm names (term_at l.nodes.now l.id)
