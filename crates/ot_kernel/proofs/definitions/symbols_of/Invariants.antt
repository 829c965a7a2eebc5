use Rattle.std.proofs.Common.{map, take}
use Rattle.ot_logic.specs.Hol.{symbols_all}
use Rattle.ot_logic.specs.Lists.{IsSameSet}
use Rattle.ot_logic.specs.Naming.{numbers}
use Rattle.ot_term.specs.Symbols.{symbol_of}
use Rattle.ot_kernel.specs.Numbered.{tms_at}
use Rattle.ot_kernel.proofs.definitions.symbols_of.Given as goal

abbrev pub invariant-loop-id : goal.invariant-loop-id
invariant-loop-id l =
    IsSameSet (map symbol_of l.symbols.items) (symbols_all numbers (tms_at l.terms.terms (take l.id-index l.ids)))
