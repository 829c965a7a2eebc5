use Rattle.std.proofs.Common.{map, take}
use Rattle.ot_logic.specs.Hol.{symbols_all}
use Rattle.ot_logic.specs.Lists.{IsSameSet}
use Rattle.ot_logic.specs.Naming.{numbers}
use Rattle.ot_term.specs.Symbols.{symbol_of}
use Rattle.ot_define.specs.Answers.{tm_at}
use Rattle.ot_define.proofs.premise.symbols_in.Given as goal

abbrev pub invariant-loop-hyp : goal.invariant-loop-hyp
invariant-loop-hyp l = IsSameSet (map symbol_of l.symbols.keys)
    (symbols_all numbers (map (tm_at l.terms.terms) (take l.hyp-index l.hyps)))
