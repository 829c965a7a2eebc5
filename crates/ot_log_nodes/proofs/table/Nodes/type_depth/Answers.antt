use Rattle.ot_log_nodes.proofs.ItemLemmas.{type-within}
use Rattle.ot_log_nodes.proofs.table.Nodes.type_depth.Goals as goal

pub entry-requires : goal.entry-requires
entry-requires c = rw c.id.view_is (type-within _ _ c.requires)
