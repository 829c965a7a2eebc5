use Rattle.ot_parse.proofs.Components.{single-is}
use Rattle.ot_parse.proofs.terms.is_single.Goals as goal

pub returns : goal.returns
returns c = single-is (λ d. d.items) c.components.result.now c.args.name.now c.components.ensures.value
