use Rattle.std.proofs.Common.{◌∙◌, sym}
use Rattle.ot_parse.proofs.Rivals.{not-shown, not-short, if-alone}
use Rattle.ot_parse.proofs.notation.is_hidden_in.Goals as goal

pub returns-then-not-is_shown : goal.returns-then-not-is_shown
returns-then-not-is_shown c = λ symbols h. not-shown c.args.shown.now c.args.symbol.now.0 c.args.symbol.now.1 symbols
    (sym c.is_shown.ensures ∙ c.if-not-is_shown.true)

pub returns-then-not-is_short : goal.returns-then-not-is_short
returns-then-not-is_short c = λ symbols h. not-short c.args.shown.now c.args.symbol.now.0 c.args.symbol.now.1 symbols
    (sym c.is_short.ensures ∙ c.if-not-is_short.true)

pub returns : goal.returns
returns c = λ symbols h.
    c.is_alone.ensures c.args.shown.now symbols h
    ∙ if-alone c.args.shown.now c.args.symbol.now.0 c.args.symbol.now.1 symbols
    (sym c.is_shown.ensures ∙ c.if-not-is_shown.false) (sym c.is_short.ensures ∙ c.if-not-is_short.false)
