use Rattle.std.specs.List.{list_all}
use Rattle.std.proofs.Common.{◌≡◌, map, drop}
use Rattle.ot_logic.specs.Naming.{names}
use Rattle.ot_logic.specs.Table.{Extends}
use Rattle.ot_log_format.specs.Steps.{is_sequent_within}
use Rattle.ot_log_nodes.specs.Typing.{AreTypings}
use Rattle.ot_log_rules.specs.Statements.{sequent_at}
use Rattle.ot_log_rules.proofs.typing.are_statements_within.Given as goal

abbrev pub invariant-loop-statement : goal.invariant-loop-statement
invariant-loop-statement l = record {
  extends : Extends l.fn.nodes l.nodes;
  known : AreTypings l.nodes l.typings.known.entries;
  all : list_all (is_sequent_within names) (map (sequent_at l.fn.nodes) l.statements)
      ≡ list_all (is_sequent_within names) (map (sequent_at l.fn.nodes) (drop l.statement-index l.statements));
}
