use Rattle.ot_log_nodes.proofs.ItemLemmas.{term-within}
use Rattle.ot_log_nodes.proofs.table.Nodes.beside.Goals as goal

pub entry-requires : goal.entry-requires
entry-requires c = rw c.id.view_is (term-within _ _ c.requires)
