use Rattle.std.proofs.Common.{ap, ◌∙◌}
use Rattle.ot_kernel.specs.State.{name_at}
use Rattle.ot_trace.specs.Origins.{map_origin}
use Rattle.ot_trace.specs.Trace.{origin_at}
use Rattle.ot_machine.proofs.Traced.{operand-read}
use Rattle.ot_machine.proofs.session.Session.operand_of.Goals as goal

pub returns-clause-operand : goal.returns-clause-operand
returns-clause-operand c =
    ap (map_origin (name_at c.args.self.now.kernel)) c.operand.ensures.operand
    ∙ operand-read (name_at c.args.self.now.kernel) c.args.place (origin_at c.args.self.now.trace c.args.step)
