use Rattle.std.proofs.Common.{◌≡◌, take}
use Rattle.ot_logic.specs.Naming.{names}
use Rattle.ot_logic.specs.Hol.{constants_for}
use Rattle.ot_logic.specs.Table.{Extends}
use Rattle.ot_log_nodes.specs.Changing.{HasTerms, term_map}
use Rattle.ot_log_rules.specs.Definitions.{pairs_at}
use Rattle.ot_log_rules.proofs.defining.constants_of.Given as goal

abbrev pub invariant-loop-pair : goal.invariant-loop-pair
invariant-loop-pair l = record {
  extends : Extends l.fn.nodes l.nodes;
  has : HasTerms l.nodes l.terms.items;
  terms : term_map l.nodes l.terms.items ≡ constants_for names (pairs_at l.fn.nodes (take l.pair-index l.pairs));
}
