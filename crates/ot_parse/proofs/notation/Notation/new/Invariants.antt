use Rattle.std.proofs.Common.{◌≡◌, map, take}
use Rattle.std.specs.List.{filter}
use Rattle.ot_forms.specs.Words.{is_hidden_in}
use Rattle.ot_parse.specs.Symbols.{symbol_of}
use Rattle.ot_parse.proofs.notation.Notation.new.Given as goal

abbrev pub invariant-loop-symbol : goal.invariant-loop-symbol
invariant-loop-symbol l = map symbol_of l.hidden.items ≡ filter (is_hidden_in l.shown (map symbol_of l.symbols))
    (take l.symbol-index (map symbol_of l.symbols))
