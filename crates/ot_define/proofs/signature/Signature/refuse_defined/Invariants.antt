use Rattle.std.proofs.Common.{◌≡◌, ◌++◌, map, drop}
use Rattle.ot_logic.specs.Naming.{numbers}
use Rattle.ot_term.specs.Symbols.{symbol_of}
use Rattle.ot_laws.specs.Conditions.{refuse_defined}
use Rattle.ot_define.proofs.signature.Signature.refuse_defined.Given as goal

-- the symbols that are left are refused as all are, those before being defined
abbrev pub invariant-loop-symbol : goal.invariant-loop-symbol
invariant-loop-symbol l =
    refuse_defined numbers l.self.defined (map symbol_of l.symbols) ≡ refuse_defined numbers
    (map symbol_of l.before.keys ++ l.self.defined) (map symbol_of (drop l.symbol-index l.symbols))
