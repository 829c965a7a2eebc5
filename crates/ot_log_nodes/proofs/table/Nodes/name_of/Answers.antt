use Rattle.ot_log_nodes.proofs.ItemLemmas.{name-within}
use Rattle.ot_log_nodes.proofs.table.Nodes.name_of.Goals as goal

pub entry-requires : goal.entry-requires
entry-requires c = rw c.id.view_is (name-within _ _ c.requires)
