use Rattle.std.specs.List.{All}
use Rattle.std.specs.Option.{option_map}
use Rattle.std.proofs.Common.{◌≡◌, ◌++◌, map, drop}
use Rattle.ot_logic.specs.Naming.{names}
use Rattle.ot_laws.specs.Conditions.{terms_given}
use Rattle.ot_log_nodes.specs.Changing.{variable_at}
use Rattle.ot_log_rules.specs.Statements.{terms_at}
use Rattle.ot_log_rules.specs.Conditions.{IsGivenTerm, given_terms}
use Rattle.ot_log_rules.proofs.conditions.terms_given.Given as goal

abbrev pub invariant-loop-variable : goal.invariant-loop-variable
invariant-loop-variable l = record {
  given : terms_given names (terms_at l.nodes l.hyps) (map (variable_at l.nodes) l.vars)
      ≡ option_map (λ ts. given_terms l.nodes l.given.items ++ ts)
      (terms_given names (terms_at l.nodes l.hyps) (map (variable_at l.nodes) (drop l.variable-index l.vars)));
  typed : All (IsGivenTerm l.nodes) l.given.items;
}
