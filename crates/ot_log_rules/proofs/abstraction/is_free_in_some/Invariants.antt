use Rattle.std.proofs.Common.{◌≡◌, drop}
use Rattle.ot_logic.specs.Naming.{names}
use Rattle.ot_logic.specs.Hol.{is_free_in_some}
use Rattle.ot_logic.specs.Table.{Extends}
use Rattle.ot_log_nodes.specs.Changing.{Closing, variable_at, HasVariable, IsDone}
use Rattle.ot_log_rules.specs.Statements.{terms_at}
use Rattle.ot_log_rules.proofs.abstraction.is_free_in_some.Given as goal

abbrev pub invariant-loop-id : goal.invariant-loop-id
invariant-loop-id l = record {
  extends : Extends l.fn.nodes l.nodes;
  v : HasVariable l.nodes l.v;
  done : IsDone l.nodes (Closing (variable_at l.nodes l.v)) l.done;
  all : is_free_in_some names (variable_at l.fn.nodes l.v) (terms_at l.fn.nodes l.ids)
      ≡ is_free_in_some names (variable_at l.fn.nodes l.v) (terms_at l.fn.nodes (drop l.id-index l.ids));
}
