use Rattle.std.proofs.Common.{◌∙◌}
use Rattle.ot_kernel.proofs.membership.has_class.Goals as goal

pub returns : goal.returns
returns c = λ us are. c.contains.ensures ∙ are c.args.t c.class.result c.class.ensures.class
