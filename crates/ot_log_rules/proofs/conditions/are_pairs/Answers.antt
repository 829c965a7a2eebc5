use Rattle.std.specs.Prelude.{◌==◌}
use Rattle.std.proofs.Common.{◌&&◌, length, ◌∙◌}
use Rattle.ot_log_rules.proofs.Asked.{distinct-names, distinct-variables}
use Rattle.ot_log_rules.proofs.conditions.are_pairs.Goals as goal

pub returns : goal.returns
returns c =
    let names = c.in_ok-names_differ.ensures
    ∙ distinct-names c.args.nodes.now c.primitives.ensures.once c.args.constants.now c.requires.constants in
    let vars = c.in_ok-vars_differ.ensures
    ∙ distinct-variables c.args.nodes.now c.primitives.ensures.once c.args.vars.now c.requires.vars in
    λ i. names i && vars i && (length c.args.hyps.now == length c.args.vars.now)
