use Rattle.std.proofs.Common.{◌∙◌}
use Rattle.ot_pretty.proofs.Relations.{bool-name}
use Rattle.ot_pretty.proofs.nodes.is_bool_name.Goals as goal

pub returns : goal.returns
returns c = c.eq.ensures ∙ bool-name c.args.kernel.now c.sound.ensures.names c.args.name c.requires
