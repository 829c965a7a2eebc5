use Rattle.std.proofs.Common.{◌≡◌, ◌++◌, map, drop}
use Rattle.ot_forms.specs.Reading.{operators}
use Rattle.ot_parse.specs.Symbols.{symbol_of}
use Rattle.ot_parse.proofs.notation.Notation.operators.Given as goal

abbrev pub invariant-loop-symbol : goal.invariant-loop-symbol
invariant-loop-symbol l = map (λ c. (c.0.now, c.1.now)) l.words.items
    ++ operators (map symbol_of (drop l.symbol-index l.symbol-items)) ≡ operators (map symbol_of l.symbol-items)
