use Rattle.ot_view.proofs.Spelled.{same_terms}
use Rattle.ot_view.proofs.same_term.Goals as goal

pub returns : goal.returns
returns c = same_terms c.args.kernel.now c.terms.result.now c.terms.ensures c.sound.ensures.names c.args.a c.args.b
    c.alpha_eq.result c.requires.left c.requires.right c.alpha_eq.ensures
