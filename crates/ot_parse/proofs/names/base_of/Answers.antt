use Rattle.std.proofs.Common.{◌∙◌, ap}
use Rattle.ot_forms.specs.Words.{base}
use Rattle.ot_parse.proofs.Components.{base-last}
use Rattle.ot_parse.proofs.names.base_of.Goals as goal

pub returns : goal.returns
returns c =
    c.as_slice.ensures.value ∙ ap (λ v. v.items) c.index-components-components.is
    ∙ base-last (λ d. d.items) c.components-components.result.now c.index-components-components.result
    c.components-components.ensures.some
    ∙ ap base c.components-components.ensures.value
