use Rattle.std.proofs.Common.{sym, ap, ◌∙◌}
use Rattle.indexmap.specs.IndexMap.{index_map_len}
use Rattle.ot_near.proofs.Placing.{length-nodes}
use Rattle.ot_near.proofs.table.NearMap.len.Goals as goal

pub returns : goal.returns
returns g c = c.len.ensures.len ∙ sym (length-nodes c.self.inside.entries.entries) ∙ ap index_map_len c.self.view_is
