use Rattle.std.specs.List.{slice_get}
use Rattle.std.proofs.Common.{[], ap, sym, ◌∙◌}
use Rattle.std.proofs.lemmas.Option.{get_or_from_slice_get}
use Rattle.ot_forms.specs.Words.{word}
use Rattle.ot_parse.specs.Symbols.{symbol_of}
use Rattle.ot_text.proofs.Putting.{same-text}
use Rattle.ot_pretty.proofs.words.put_symbol.Goals as goal

pub returns : goal.returns
returns c =
    let found = ap (λ ns. slice_get ns c.args.name) (sym c.names.ensures) ∙ c.get.ensures.name in
    same-text
    (ap (λ n. word c.args.notation.now (symbol_of (c.args.kind, n)))
    (sym (get_or_from_slice_get c.args.kernel.now.names c.args.name c.get.result.now [] found)))
    c.put_word.ensures
