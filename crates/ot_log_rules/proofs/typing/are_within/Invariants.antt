use Rattle.std.specs.List.{list_all}
use Rattle.std.proofs.Common.{◌≡◌, drop}
use Rattle.ot_logic.specs.Naming.{names}
use Rattle.ot_logic.specs.Table.{Extends}
use Rattle.ot_log_format.specs.Steps.{is_within}
use Rattle.ot_log_nodes.specs.Typing.{AreTypings}
use Rattle.ot_log_rules.specs.Statements.{terms_at}
use Rattle.ot_log_rules.proofs.typing.are_within.Given as goal

abbrev pub invariant-loop-id : goal.invariant-loop-id
invariant-loop-id l = record {
  extends : Extends l.fn.nodes l.nodes;
  known : AreTypings l.nodes l.typings.known.entries;
  all : list_all (is_within names) (terms_at l.fn.nodes l.ids)
      ≡ list_all (is_within names) (terms_at l.fn.nodes (drop l.id-index l.ids));
}
