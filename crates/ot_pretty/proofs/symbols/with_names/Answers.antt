use Rattle.std.proofs.Common.{map, ap, ◌∙◌, arith}
use Rattle.std.proofs.lemmas.List.{take_all}
use Rattle.ot_pretty.specs.Run.{named_symbol}
use Rattle.ot_pretty.proofs.Roots.{named-more}
use Rattle.ot_pretty.proofs.symbols.with_names.Goals as goal

pub loop-symbol-preserved : goal.loop-symbol-preserved
loop-symbol-preserved c =
    named-more c.args.kernel.now c.args.symbols.now c.loop-symbol.symbol-index c.symbol-item.result
    c.loop-symbol.named.items c.push.new.self.items _ c.loop-symbol-test.true c.symbol-item.is
    c.loop-symbol.invariant c.in_ok-with_name.ensures c.in_ok-push.ensures.items

pub returns : goal.returns
returns c = c.loop-symbol.invariant
    ∙ ap (map (named_symbol c.args.kernel.now)) (take_all c.loop-symbol.symbol-index c.args.symbols.now (omega arith))
