use Rattle.std.proofs.Common.{◌∙◌}
use Rattle.ot_view.proofs.Spelled.{same_types}
use Rattle.ot_view.proofs.same_type.Goals as goal

pub returns : goal.returns
returns c = c.eq.ensures ∙ same_types c.args.kernel.now c.terms-terms.result.now c.terms-terms.ensures
    c.sound.ensures.names c.args.a c.args.b c.requires.left c.requires.right
