use Rattle.std.proofs.Common.{map, ap, ◌∙◌}
use Rattle.std.proofs.lemmas.Result.{IfOk-weaker}
use Rattle.ot_forms.specs.Words.{hidden_symbols}
use Rattle.ot_parse.specs.Symbols.{symbol_of}
use Rattle.ot_pretty.proofs.summary.run_notation.Goals as goal

pub returns : goal.returns
returns c =
    IfOk-weaker c.new.result _ _
    (λ n e. record {
      symbols = map symbol_of c.in_ok-symbols.symbols.items;
      same = c.in_ok-symbols.ensures.symbols;
      hides = e ∙ ap (λ l. hidden_symbols c.args.shown.now (map symbol_of l)) c.as_slice.ensures.value;
    })
    c.new.ensures
