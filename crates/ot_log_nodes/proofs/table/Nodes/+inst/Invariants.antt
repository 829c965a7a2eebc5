use Rattle.std.proofs.Common.{◌+◌, ◌*◌, take}
use Rattle.std.specs.List.{All}
use Rattle.ot_logic.specs.Table.{Extends}
use Rattle.ot_log_nodes.specs.Items.{HasType}
use Rattle.ot_log_nodes.specs.Changing.{type_map, HasTypes, AreInstances, HasInstances}
use Rattle.ot_log_nodes.proofs.table.Nodes.+inst.Given as goal

abbrev pub decreases-inst : goal.decreases-inst
decreases-inst l = 3 * l.id + 2

abbrev pub decreases-inst_node : goal.decreases-inst_node
decreases-inst_node l = 3 * l.id + 1

abbrev pub decreases-inst_each : goal.decreases-inst_each
decreases-inst_each l = 3 * l.above

-- the instances so far
abbrev pub invariant-inst_each-loop-id : goal.invariant-inst_each-loop-id
invariant-inst_each-loop-id l = record {
  extends : Extends l.fn.self l.self;
  here : All (HasType l.self) l.ids;
  pairs : HasTypes l.self l.fn.pairs.entries;
  done : AreInstances l.self (type_map l.self l.fn.pairs.entries) l.done.entries;
  found : HasInstances l.fn.self l.self (type_map l.fn.self l.fn.pairs.entries) (take l.id-index l.ids)
      l.instances.items;
}
