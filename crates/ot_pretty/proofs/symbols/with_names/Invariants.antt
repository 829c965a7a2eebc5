use Rattle.std.proofs.Common.{◌≡◌, map, take}
use Rattle.ot_parse.specs.Symbols.{symbol_of}
use Rattle.ot_pretty.specs.Run.{named_symbol}
use Rattle.ot_pretty.proofs.symbols.with_names.Given as goal

abbrev pub invariant-loop-symbol : goal.invariant-loop-symbol
invariant-loop-symbol l = map symbol_of l.named.items ≡ map (named_symbol l.kernel) (take l.symbol-index l.symbols)
