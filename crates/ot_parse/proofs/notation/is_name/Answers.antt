use Rattle.ot_logic.proofs.NameLemmas.{has-components}
use Rattle.ot_parse.proofs.notation.is_name.Goals as goal

pub returns : goal.returns
returns c = has-components (λ d. d.items) _ _ c.components-components.ensures.value c.components-components.ensures.some
