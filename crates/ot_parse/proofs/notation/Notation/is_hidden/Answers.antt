use Rattle.std.specs.List.{list_any}
use Rattle.std.proofs.Common.{◌∙◌, ap}
use Rattle.ot_forms.specs.Words.{same_symbol, is_hidden}
use Rattle.ot_parse.specs.Symbols.{symbol_of}
use Rattle.ot_parse.proofs.Lookups.{any-map}
use Rattle.ot_parse.proofs.notation.Notation.is_hidden.Goals as goal

pub returns : goal.returns
returns c = c.has_symbol.ensures
    ∙ ap (list_any (λ t. same_symbol (symbol_of (c.args.kind, c.args.name.now)) (symbol_of t)))
    c.as_slice.ensures.value ∙ any-map (same_symbol (symbol_of (c.args.kind, c.args.name.now))) symbol_of
    c.self.inside.hidden.items
    ∙ ap (λ h. is_hidden h (symbol_of (c.args.kind, c.args.name.now))) c.self.view_is
