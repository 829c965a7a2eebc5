use Rattle.std.proofs.Common.{sym, subst, arith, map}
use Rattle.ot_forms.specs.Words.{is_hidden_in, IsNotation}
use Rattle.ot_forms.proofs.Notations.{is-notation}
use Rattle.ot_parse.specs.Symbols.{symbol_of}
use Rattle.ot_parse.proofs.Hiding as hiding
use Rattle.ot_parse.proofs.notation.Notation.new.Goals as goal

pub loop-symbol-preserved : goal.loop-symbol-preserved
loop-symbol-preserved c =
    hiding.one-more symbol_of (is_hidden_in c.args.shown.now (map symbol_of c.args.symbols.now)) c.args.symbols.now
    (map symbol_of c.loop-symbol.hidden.items) (map symbol_of c.push_hidden.new.hidden.items)
    c.loop-symbol.symbol-index c.symbol-item.result
    c.loop-symbol.invariant (omega arith) c.symbol-item.is
    (c.in_ok-push_hidden.ensures (map symbol_of c.args.symbols.now) c.in_ok-bases.ensures)

pub invariant_of-result : goal.invariant_of-result
invariant_of-result c =
    subst IsNotation
    (sym (hiding.all symbol_of (is_hidden_in c.args.shown.now (map symbol_of c.args.symbols.now))
    c.args.symbols.now (map symbol_of c.loop-symbol.hidden.items) c.loop-symbol.symbol-index
    c.loop-symbol.invariant (omega arith)))
    (is-notation c.args.shown.now c.are_names.ensures (map symbol_of c.args.symbols.now))

pub returns : goal.returns
returns c = hiding.all symbol_of (is_hidden_in c.args.shown.now (map symbol_of c.args.symbols.now)) c.args.symbols.now
    (map symbol_of c.loop-symbol.hidden.items) c.loop-symbol.symbol-index c.loop-symbol.invariant (omega arith)
