use Rattle.std.specs.Prelude.{IfSome}
use Rattle.std.specs.Option.{option_map}
use Rattle.std.proofs.Common.{◌≡◌, take}
use Rattle.ot_logic.specs.Naming.{names}
use Rattle.ot_laws.specs.Conditions.{given}
use Rattle.ot_log_nodes.specs.Changing.{variable_at}
use Rattle.ot_log_rules.specs.Statements.{terms_at}
use Rattle.ot_log_rules.specs.Conditions.{listed, IsGivenTerm, given_term}
use Rattle.ot_log_rules.proofs.conditions.only_given.Given as goal

abbrev pub invariant-loop-hyp : goal.invariant-loop-hyp
invariant-loop-hyp l = record {
  given : given names (terms_at l.nodes (take l.hyp-index l.hyps)) (variable_at l.nodes l.variable)
      ≡ listed (option_map (given_term l.nodes) l.found);
  typed : IfSome l.found (IsGivenTerm l.nodes);
}
