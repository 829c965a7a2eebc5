use Rattle.std.specs.List.{list_all}
use Rattle.std.proofs.Common.{◌≡◌, drop}
use Rattle.ot_logic.specs.Naming.{names}
use Rattle.ot_logic.specs.Rules.{has_type}
use Rattle.ot_logic.specs.Table.{Extends}
use Rattle.ot_log_nodes.specs.Changing.{term_map}
use Rattle.ot_log_nodes.specs.Typing.{AreTypings}
use Rattle.ot_log_rules.proofs.put.are_typed.Given as goal

abbrev pub invariant-loop-i : goal.invariant-loop-i
invariant-loop-i l = record {
  extends : Extends l.fn.nodes l.nodes;
  known : AreTypings l.nodes l.typings.known.entries;
  all : list_all (λ p. has_type names p.1 p.0.ty) (term_map l.fn.nodes l.terms.entries)
      ≡ list_all (λ p. has_type names p.1 p.0.ty) (term_map l.fn.nodes (drop l.i l.terms.entries));
}
