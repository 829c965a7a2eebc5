use Rattle.std.specs.List.{All}
use Rattle.std.proofs.Common.{map, subst, sym, ap, ◌∙◌}
use Rattle.ot_logic.specs.Naming.{names}
use Rattle.ot_laws.specs.Conditions.{checked_list}
use Rattle.ot_log_format.specs.Steps.{all_defined, all_used}
use Rattle.ot_log_nodes.specs.Items.{HasName}
use Rattle.ot_log_nodes.specs.Changing.{variable_at, HasVariable}
use Rattle.ot_log_rules.specs.Definitions.{names_at}
use Rattle.ot_log_rules.specs.Statements.{sequent_at}
use Rattle.ot_log_rules.specs.Symbols.{passes}
use Rattle.ot_log_rules.proofs.Giving.{pairs-names, pairs-variables, names-of_pairs, variables-of_pairs}
use Rattle.ot_log_rules.proofs.conditions.may_be_constants.Goals as goal

pub may_be_for-requires-clause-constants : goal.may_be_for-requires-clause-constants
may_be_for-requires-clause-constants c =
    subst (All (HasName c.args.nodes.now)) (sym (c.as_slice.ensures.value ∙ c.in_ok-constants.ensures))
    (pairs-names c.args.nodes.now c.args.pairs.now c.requires.pairs)

pub may_be_for-requires-clause-vars : goal.may_be_for-requires-clause-vars
may_be_for-requires-clause-vars c =
    subst (All (HasVariable c.args.nodes.now)) (sym (c.as_slice-2.ensures.value ∙ c.in_ok-vars.ensures))
    (pairs-variables c.args.nodes.now c.args.pairs.now c.requires.pairs)

pub returns : goal.returns
returns c = λ dl sig.
    let ts = c.args.nodes.now in
    let ns = ap (names_at ts) (c.as_slice.ensures.value ∙ c.in_ok-constants.ensures)
    ∙ names-of_pairs ts c.args.pairs.now in
    let vs = ap (map (variable_at ts)) (c.as_slice-2.ensures.value ∙ c.in_ok-vars.ensures)
    ∙ variables-of_pairs ts c.args.pairs.now in
    c.in_ok-may.ensures dl sig
    ∙ (λ i. passes (checked_list names (all_defined names dl) (all_used names dl) (ns i) (vs i)
    (sequent_at ts c.args.premise.now)))
