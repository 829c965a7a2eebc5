use Rattle.std.proofs.Common.{◌∙◌, sym, ap}
use Rattle.std.proofs.lemmas.List.Folds.{list_all-map}
use Rattle.ot_forms.specs.Words.{is_part, is_bare}
use Rattle.ot_parse.proofs.names.is_bare.Goals as goal

pub returns : goal.returns
returns c = c.are_parts.ensures ∙ sym (list_all-map is_part (λ d. d.items) c.components.result.now)
    ∙ ap is_bare c.components.ensures.value
