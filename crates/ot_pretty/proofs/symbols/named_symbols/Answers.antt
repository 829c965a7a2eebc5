use Rattle.std.proofs.lemmas.Result.{IfOk-weaker}
use Rattle.ot_parse.specs.Symbols.{symbol_of}
use Rattle.std.proofs.Common.{map}
use Rattle.ot_pretty.proofs.Finding.{named-found, named-apart}
use Rattle.ot_pretty.proofs.symbols.named_symbols.Goals as goal

pub returns-clause-symbols : goal.returns-clause-symbols
returns-clause-symbols c =
    IfOk-weaker c.with_names.result _ _
    (λ v e. named-found c.args.kernel.now c.args.ids.now c.in_ok-symbols.symbols.items c.as_slice.result.now
    (map symbol_of v.items) e c.as_slice.ensures.value c.in_ok-symbols.ensures.symbols)
    c.with_names.ensures

pub returns-clause-once : goal.returns-clause-once
returns-clause-once c =
    IfOk-weaker c.with_names.result _ _
    (λ v e. named-apart c.args.kernel.now c.sound.ensures.names c.in_ok-symbols.symbols.items c.as_slice.result.now
    (map symbol_of v.items) e c.as_slice.ensures.value c.in_ok-symbols.ensures.inside
    c.in_ok-symbols.ensures.once)
    c.with_names.ensures
