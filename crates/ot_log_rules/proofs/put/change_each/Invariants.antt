use Rattle.std.specs.List.{All}
use Rattle.std.proofs.Common.{◌≡◌, map, take}
use Rattle.ot_logic.specs.Table.{Extends}
use Rattle.ot_log_nodes.specs.Items.{HasTerm}
use Rattle.ot_log_nodes.specs.Changing.{changed, changing, HasChange, IsDone}
use Rattle.ot_log_rules.specs.Statements.{terms_at}
use Rattle.ot_log_rules.proofs.put.change_each.Given as goal

abbrev pub invariant-loop-id : goal.invariant-loop-id
invariant-loop-id l = record {
  extends : Extends l.fn.nodes l.nodes;
  change : HasChange l.nodes l.change;
  done : IsDone l.nodes (changing l.nodes l.change) l.done;
  has : All (HasTerm l.nodes) l.all.items;
  all : terms_at l.nodes l.all.items ≡ map (changed (changing l.fn.nodes l.change) 0)
      (terms_at l.fn.nodes (take l.id-index l.ids));
}
