use Rattle.ot_log_nodes.proofs.NodeLemmas.{type-kind}
use Rattle.ot_log_nodes.proofs.table.Nodes.has_type.Goals as goal

pub returns-in-Some : goal.returns-in-Some
returns-in-Some c = rw c.is_type.ensures (rw (← c.id.view_is) (type-kind _ _ _ c.in-Some.ensures))
