use Rattle.std.specs.List.{list_all}
use Rattle.std.proofs.Common.{ap, ◌∙◌}
use Rattle.ot_log_rules.specs.Conditions.{is_allowed}
use Rattle.ot_log_rules.proofs.Asked.{closed-marks}
use Rattle.ot_log_rules.proofs.conditions.is_closed_but.Goals as goal

pub returns : goal.returns
returns c = λ t of.
    c.are_allowed.ensures ∙ ap (list_all (is_allowed c.args.vars.now)) c.as_slice.ensures.keys
    ∙ closed-marks c.args.nodes.now c.primitives.ensures.once c.args.vars.now c.args.parts.now t c.requires of
