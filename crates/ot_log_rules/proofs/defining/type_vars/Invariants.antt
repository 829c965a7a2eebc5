use Rattle.std.specs.List.{All}
use Rattle.std.proofs.Common.{◌≡◌, take}
use Rattle.ot_logic.specs.Naming.{names}
use Rattle.ot_logic.specs.Hol.{tys_of_vars}
use Rattle.ot_logic.specs.Table.{Extends}
use Rattle.ot_log_nodes.specs.Items.{HasType, types_at}
use Rattle.ot_log_rules.specs.Definitions.{names_at}
use Rattle.ot_log_rules.proofs.defining.type_vars.Given as goal

abbrev pub invariant-loop-var : goal.invariant-loop-var
invariant-loop-var l = record {
  extends : Extends l.fn.nodes l.nodes;
  has : All (HasType l.nodes) l.args.items;
  args : types_at l.nodes l.args.items ≡ tys_of_vars names (names_at l.fn.nodes (take l.var-index l.vars));
}
