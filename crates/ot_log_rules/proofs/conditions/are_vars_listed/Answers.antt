use Rattle.std.specs.List.{list_all}
use Rattle.std.proofs.Common.{◌&&◌, ap, ◌∙◌}
use Rattle.ot_log_rules.specs.Conditions.{is_var_of}
use Rattle.ot_log_rules.proofs.Asked.{distinct-names, listed-marks}
use Rattle.ot_log_rules.proofs.conditions.are_vars_listed.Goals as goal

pub returns : goal.returns
returns c = λ t of.
    let ts = c.args.nodes.now in
    let distinct = c.in_ok-distinct.ensures
    ∙ distinct-names ts c.primitives.ensures.once c.args.vars.now c.requires in
    let listed = c.are_vars_of-listed.ensures ∙ ap (list_all (is_var_of c.args.vars.now)) c.as_slice.ensures.keys
    ∙ listed-marks ts c.primitives.ensures.once c.args.vars.now c.args.parts.now t c.requires of in
    λ i. distinct i && listed i
