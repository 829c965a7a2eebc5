use Rattle.std.proofs.Common.{◌≡◌, [], map, drop}
use Rattle.ot_forms.specs.Reading.{with_base}
use Rattle.ot_parse.specs.Symbols.{symbol_of}
use Rattle.ot_parse.proofs.notation.Notation.with_base.Given as goal

abbrev pub invariant-loop-symbol : goal.invariant-loop-symbol
invariant-loop-symbol l = with_base (map symbol_of (drop l.symbol-index l.symbol-items)) (symbol_of (l.kind, []))
    l.base ≡ with_base (map symbol_of l.symbol-items) (symbol_of (l.kind, [])) l.base
