use Rattle.std.proofs.Common.{◌∙◌, ap}
use Rattle.ot_forms.specs.Words.{namespace}
use Rattle.ot_parse.proofs.Components.{namespace-take}
use Rattle.ot_parse.proofs.names.namespace_of.Goals as goal

pub returns : goal.returns
returns c = namespace-take (λ d. d.items) c.components-components.result.now c.components-components.ensures.some
    ∙ ap namespace c.components-components.ensures.value
