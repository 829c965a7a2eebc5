use Rattle.std.specs.List.{list_any}
use Rattle.std.proofs.Common.{◌∙◌, ap, []}
use Rattle.ot_forms.specs.Words.{is_taken}
use Rattle.ot_parse.specs.Symbols.{symbol_of, has_base}
use Rattle.ot_parse.proofs.Lookups.{any-map}
use Rattle.ot_parse.proofs.notation.Notation.takes_part.Goals as goal

pub returns : goal.returns
returns c = c.has_any_base.ensures
    ∙ ap (list_any (λ t. has_base (symbol_of (c.args.kind, [])) c.args.text.now (symbol_of t)))
    c.as_slice.ensures.value ∙ any-map (has_base (symbol_of (c.args.kind, [])) c.args.text.now) symbol_of
    c.self.inside.hidden.items
    ∙ ap (λ h. is_taken h (symbol_of (c.args.kind, [])) c.args.text.now) c.self.view_is
