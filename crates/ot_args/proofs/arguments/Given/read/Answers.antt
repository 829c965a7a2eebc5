use Rattle.std.proofs.Common.{sym, ◌∙◌}
use Rattle.std.specs.Prelude.{None, Some}
use Rattle.ot_args.specs.Reading.{settings_value}
use Rattle.ot_args.proofs.Steps.{folder_loop, refused}
use Rattle.ot_args.proofs.arguments.Given.read.Goals as goal

pub returns-in_err-settings : goal.returns-in_err-settings
returns-in_err-settings c =
    refused c.from_residual.result c.from_residual.ensures.0
    ∙ sym (c.loop-rest.invariant
    ∙ folder_loop c.args.verb c.loop-rest.rest.now c.first-item.result c.folder-item.result _ _
    (settings_value c.loop-rest.settings) None c.in-len1-up.len_at_least c.first-item.is
    c.as_str-name.ensures.value (sym c.eq.ensures ∙ c.if-eq.true) c.in-len1-up-behind.len_at_least
    c.folder-item.is c.as_str.ensures.value c.in_err-settings.ensures)

pub loop-rest-preserved-then-eq : goal.loop-rest-preserved-then-eq
loop-rest-preserved-then-eq c =
    c.loop-rest.invariant
    ∙ folder_loop c.args.verb c.loop-rest.rest.now c.first-item.result c.folder-item.result _ _
    (settings_value c.loop-rest.settings) (Some (settings_value c.in_ok-settings.settings))
    c.in-len1-up.len_at_least c.first-item.is c.as_str-name.ensures.value (sym c.eq.ensures ∙ c.if-eq.true)
    c.in-len1-up-behind.len_at_least c.folder-item.is c.as_str.ensures.value c.in_ok-settings.ensures
