use Rattle.std.proofs.Common.{◌∙◌, [], arith}
use Rattle.ot_parse.specs.Symbols.{symbol_of}
use Rattle.ot_parse.specs.Bases.{held}
use Rattle.ot_parse.proofs.BaseNames.{among-step}
use Rattle.ot_parse.proofs.bases.holders.Goals as goal

pub loop-symbol-preserved : goal.loop-symbol-preserved
loop-symbol-preserved c = λ text.
    among-step c.args.shown.now (symbol_of (c.args.kind, [])) text c.args.symbols.now c.loop-symbol.symbol-index
    c.symbol-item.result (held c.loop-symbol.holders text) (held c.add_holder.new.holders text) (omega arith)
    c.symbol-item.is (c.in_ok-add_holder.ensures text)
    ∙ c.loop-symbol.invariant text
