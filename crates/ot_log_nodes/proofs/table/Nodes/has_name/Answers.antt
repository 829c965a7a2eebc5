use Rattle.ot_log_nodes.proofs.NodeLemmas.{name-kind}
use Rattle.ot_log_nodes.proofs.table.Nodes.has_name.Goals as goal

pub returns-in-Some : goal.returns-in-Some
returns-in-Some c = rw c.is_name.ensures (rw (← c.id.view_is) (name-kind _ _ _ c.in-Some.ensures))
