use Rattle.std.proofs.Common.{◌≡◌, ℕ, List, [], None, map, drop}
use Rattle.ot_parse.specs.Symbols.{symbol_of}
use Rattle.ot_parse.specs.Bases.{held, holders_among}
use Rattle.ot_parse.proofs.bases.holders.Given as goal

abbrev pub invariant-loop-symbol : goal.invariant-loop-symbol
invariant-loop-symbol l = (text : List ℕ) → holders_among l.shown (symbol_of (l.kind, [])) text (held l.holders text)
    (map symbol_of (drop l.symbol-index l.symbols)) ≡ holders_among l.shown (symbol_of (l.kind, [])) text None
    (map symbol_of l.symbols)
