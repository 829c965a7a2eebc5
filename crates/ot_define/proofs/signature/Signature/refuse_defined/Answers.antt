use Rattle.std.proofs.Common.{List, ◌∷◌, ◌++◌, Err, map, drop, sym, ap, ◌+◌, ◌∙◌}
use Rattle.std.proofs.lemmas.Option.{same_Some}
use Rattle.indexmap.specs.IndexSet.{insert_key}
use Rattle.ot_logic.specs.Faults.{AlreadyDefined}
use Rattle.ot_logic.specs.Naming.{numbers}
use Rattle.ot_laws.proofs.Tests.{tells_numbers}
use Rattle.ot_term.specs.declared.term.Symbol.{Symbol}
use Rattle.ot_term.specs.Symbols.{symbol_of}
use Rattle.ot_term.proofs.Distinct.{symbol_eq}
use Rattle.ot_laws.specs.Conditions.{refuse_defined}
use Rattle.ot_define.proofs.Refusing.{defined-taken, defined-next, refuse_defined-agree}
use Rattle.ot_laws.proofs.Membership.{is_among-same_set}
use Rattle.ot_define.proofs.Keys.{taken-more}
use Rattle.ot_define.proofs.signature.Signature.refuse_defined.Goals as goal

pub returns-then-is_taken : goal.returns-then-is_taken
returns-then-is_taken c =
    λ f e.
    c.loop-symbol.invariant
    ∙ defined-taken numbers symbol_of (map symbol_of c.loop-symbol.before.keys ++ c.args.self.now.defined)
    c.args.symbols.now c.loop-symbol.symbol-index c.symbol-item.result c.loop-symbol-test.true c.symbol-item.is
    (sym c.is_taken.ensures ∙ c.if-is_taken.true)
    ∙ ap Err (same_Some (AlreadyDefined (symbol_of c.symbol-item.result)) f e)

pub loop-symbol-preserved : goal.loop-symbol-preserved
loop-symbol-preserved c =
    let s = symbol_of c.symbol-item.result in
    let before = map symbol_of c.loop-symbol.before.keys ++ c.args.self.now.defined in
    let after = map symbol_of (insert_key symbol_eq c.loop-symbol.before.keys c.symbol-item.result)
    ++ c.args.self.now.defined in
    let rest = map symbol_of (drop (c.loop-symbol.symbol-index + 1) c.args.symbols.now) in
    c.loop-symbol.invariant
    ∙ defined-next numbers symbol_of before c.args.symbols.now c.loop-symbol.symbol-index c.symbol-item.result
    c.loop-symbol-test.true c.symbol-item.is (sym c.is_taken.ensures ∙ c.if-is_taken.false)
    ∙ refuse_defined-agree numbers (s ∷ before) after
    (λ t. is_among-same_set numbers tells_numbers t (s ∷ before) after
    (taken-more c.loop-symbol.before.keys c.symbol-item.result c.args.self.now.defined)) rest
    ∙ ap (λ (ks : List Symbol). refuse_defined numbers (map symbol_of ks ++ c.args.self.now.defined) rest)
    (sym c.in_ok-insert.ensures.keys)
