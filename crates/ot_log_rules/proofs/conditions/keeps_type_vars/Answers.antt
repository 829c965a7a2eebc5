use Rattle.std.specs.List.{list_all}
use Rattle.std.proofs.Common.{ap, ◌∙◌}
use Rattle.ot_log_nodes.specs.Items.{type_at}
use Rattle.ot_log_rules.specs.Conditions.{is_kept_var}
use Rattle.ot_log_rules.proofs.Asked.{kept-marks}
use Rattle.ot_log_rules.proofs.conditions.keeps_type_vars.Goals as goal

pub returns : goal.returns
returns c = λ t of is.
    c.are_kept_vars.ensures ∙ ap (list_all (is_kept_var c.in_ok-own.own.marks.keys)) c.as_slice.ensures.keys
    ∙ kept-marks c.args.nodes.now c.primitives.ensures.once c.in_ok-own.own c.args.parts.now t
    (type_at c.args.nodes.now c.args.ty) c.in_ok-own.ensures of is
