use Rattle.std.specs.Prelude.{IfOk}
use Rattle.std.proofs.Common.{◌≡◌, ◌∙◌, [], sym, ap, subst, map}
use Rattle.ot_forms.specs.Reading.{with_base}
use Rattle.ot_parse.specs.Symbols.{symbol_of}
use Rattle.ot_parse.proofs.Lookups.{one-item, single-settled, single-kept}
use Rattle.ot_parse.proofs.notation.Notation.settle.Goals as goal

pub returns-in-Some : goal.returns-in-Some
returns-in-Some c =
    subst (λ z. IfOk c.copy.result (λ n. n ≡ z))
    (single-settled (λ d. d.items) c.args.self.now c.args.kind c.args.name c.in-Some.hidden.now c.only-item.result
    (ap (map (λ d. d.items))
    (sym (one-item c.components.result.now c.only-item.result c.in-len1.len_at_least c.in-len1.len_below
    c.only-item.is)) ∙ c.components.ensures.value)
    (ap (with_base c.args.self.now (symbol_of (c.args.kind, []))) (sym c.as_slice.ensures.value)
    ∙ sym c.in-Some.ensures))
    c.copy.ensures

pub returns-in-None : goal.returns-in-None
returns-in-None c =
    single-kept (λ d. d.items) c.args.self.now c.args.kind c.args.name c.only-item.result
    (ap (map (λ d. d.items))
    (sym (one-item c.components.result.now c.only-item.result c.in-len1.len_at_least c.in-len1.len_below
    c.only-item.is)) ∙ c.components.ensures.value)
    (ap (with_base c.args.self.now (symbol_of (c.args.kind, []))) (sym c.as_slice.ensures.value)
    ∙ sym c.in-None.ensures)
