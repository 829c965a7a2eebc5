use Rattle.std.proofs.Common.{◌∙◌, sym, map}
use Rattle.ot_forms.specs.Words.{is_hidden_in}
use Rattle.ot_parse.specs.Symbols.{symbol_of}
use Rattle.ot_parse.proofs.Rivals.{passes, fails}
use Rattle.ot_parse.proofs.notation.push_hidden.Goals as goal

pub returns-then-not-is_hidden_in : goal.returns-then-not-is_hidden_in
returns-then-not-is_hidden_in c = λ symbols h.
    fails (is_hidden_in c.args.shown.now symbols) (symbol_of c.args.symbol.now)
    (map symbol_of c.args.hidden.now.items) (sym (c.is_hidden_in.ensures symbols h) ∙ c.if-not-is_hidden_in.true)

pub returns : goal.returns
returns c = λ symbols h.
    passes (is_hidden_in c.args.shown.now symbols) c.args.symbol.now c.args.hidden.now.items c.push.new.self.items
    c.in_ok-copy_symbol.field-0 (sym (c.is_hidden_in.ensures symbols h) ∙ c.if-not-is_hidden_in.false)
    c.in_ok-copy_symbol.ensures
    c.in_ok-push.ensures.items
