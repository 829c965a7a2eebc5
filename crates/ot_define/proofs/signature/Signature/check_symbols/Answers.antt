use Rattle.std.proofs.Common.{map, subst}
use Rattle.std.specs.Prelude.{◌||◌}
use Rattle.ot_logic.specs.Faults.{Primitive, SymbolInUse}
use Rattle.ot_logic.specs.Hol.{primitives, symbols_of}
use Rattle.ot_logic.specs.Naming.{numbers}
use Rattle.ot_logic.specs.Answers.{◌>>=◌}
use Rattle.ot_laws.proofs.Tests.{tells_numbers}
use Rattle.ot_term.specs.Symbols.{symbol_of}
use Rattle.ot_laws.specs.Conditions.{is_among, refuse_first, refuse_defined}
use Rattle.ot_define.specs.Answers.{Checks, sequent_at}
use Rattle.ot_define.proofs.Refusing.{checks-then, checked-agree}
use Rattle.ot_define.proofs.signature.Signature.check_symbols.Goals as goal

pub returns : goal.returns
returns c =
    let ss = map symbol_of c.args.symbols.now in
    let premise = map symbol_of c.in_ok-premise.premise.keys in
    let first = refuse_first numbers Primitive (λ s. is_among numbers s (primitives numbers)) ss in
    let second = refuse_defined numbers c.args.self.now.defined ss in
    let third = refuse_first numbers SymbolInUse
    (λ s. is_among numbers s premise || is_among numbers s c.args.self.now.used) ss in
    subst (Checks c.refuse_used.result)
    (checked-agree numbers tells_numbers c.args.self.now.defined c.args.self.now.used premise
    (symbols_of numbers (sequent_at c.args.terms.now.terms c.args.hyps.now c.args.concl)) ss
    c.in_ok-premise.ensures)
    (checks-then c.refuse_used.result first (second >>= λ _. third) c.in_ok-refuse_primitive.ensures
    (checks-then c.refuse_used.result second third c.in_ok-refuse_defined.ensures c.refuse_used.ensures))
