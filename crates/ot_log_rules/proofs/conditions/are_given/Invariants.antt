use Rattle.std.specs.List.{list_all}
use Rattle.std.proofs.Common.{◌≡◌, drop}
use Rattle.ot_logic.specs.Naming.{names}
use Rattle.ot_log_rules.specs.Conditions.{given_terms, may_be_given}
use Rattle.ot_log_rules.proofs.conditions.are_given.Given as goal

abbrev pub invariant-loop-item : goal.invariant-loop-item
invariant-loop-item l = list_all (may_be_given names) (given_terms l.nodes l.given) ≡ list_all (may_be_given names)
    (given_terms l.nodes (drop l.item-index l.given))
