use Rattle.std.proofs.Common.{◌++◌, List, map, subst, arith}
use Rattle.std.proofs.lemmas.List.{take_all}
use Rattle.ot_logic.specs.Hol.{symbols_tm, symbols_all}
use Rattle.ot_logic.specs.Lists.{IsSameSet}
use Rattle.ot_logic.specs.Naming.{numbers}
use Rattle.ot_laws.proofs.Sets.{same_set-then, same_set-append, same_set-self}
use Rattle.ot_term.specs.Symbols.{symbol_of}
use Rattle.ot_define.specs.Answers.{tm_at}
use Rattle.ot_define.proofs.Keys.{symbols-next}
use Rattle.ot_define.proofs.premise.symbols_in.Goals as goal

pub loop-hyp-preserved : goal.loop-hyp-preserved
loop-hyp-preserved c =
    subst (IsSameSet (map symbol_of c.add_symbols.new.symbols.keys))
    (symbols-next c.args.terms.now.terms c.args.hyps.now c.loop-hyp.hyp-index c.hyp-item.result
    c.loop-hyp-test.true c.hyp-item.is)
    (same_set-then c.in_ok-add_symbols.ensures
    (same_set-append c.loop-hyp.invariant
    (same_set-self (symbols_tm numbers (tm_at c.args.terms.now.terms c.hyp-item.result)))))

pub returns : goal.returns
returns c =
    let last = symbols_tm numbers (tm_at c.args.terms.now.terms c.args.concl) in
    subst (λ (hs : List _). IsSameSet (map symbol_of c.add_symbols-2.new.symbols.keys)
    (symbols_all numbers (map (tm_at c.args.terms.now.terms) hs) ++ last))
    (take_all c.loop-hyp.hyp-index c.args.hyps.now (omega arith))
    (same_set-then c.in_ok-add_symbols-2.ensures (same_set-append c.loop-hyp.invariant (same_set-self last)))
