use Rattle.ot_log_values.proofs.Stepping.{not-name}
use Rattle.ot_log_values.proofs.steps.name.Goals as goal

pub unreachable-requires : goal.unreachable-requires
unreachable-requires c =
    not-name c.args.session.now c.args.id c.trace.result.now c.step.result.now c.trace.ensures c.step.ensures.origin
    c.in_default.not-Name c.requires.value
