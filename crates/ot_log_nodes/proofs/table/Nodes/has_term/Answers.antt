use Rattle.ot_log_nodes.proofs.NodeLemmas.{term-kind}
use Rattle.ot_log_nodes.proofs.table.Nodes.has_term.Goals as goal

pub returns-in-Some : goal.returns-in-Some
returns-in-Some c = rw c.is_term.ensures (rw (← c.id.view_is) (term-kind _ _ _ c.in-Some.ensures))
