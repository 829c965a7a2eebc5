use Rattle.std.proofs.Common.{◌∙◌, sym}
use Rattle.ot_text.proofs.Putting.{same-text}
use Rattle.ot_pretty.proofs.DottedWords.{hidden-word, spelled-word, dotted-word}
use Rattle.ot_pretty.proofs.words.put_word.Goals as goal

pub returns-then-is_hidden : goal.returns-then-is_hidden
returns-then-is_hidden c =
    same-text (c.base_of.ensures ∙ hidden-word c.args.notation.now c.args.kind c.args.name.now
    (sym c.is_hidden.ensures ∙ c.if-is_hidden.true)) c.put.ensures

pub returns-then-is_spelled : goal.returns-then-is_spelled
returns-then-is_spelled c =
    same-text
    (spelled-word c.args.notation.now c.args.kind c.args.name.now (sym c.is_hidden.ensures ∙ c.if-is_hidden.false)
    (sym c.is_spelled.ensures ∙ c.if-is_spelled.true)) c.put_name.ensures

pub returns : goal.returns
returns c =
    same-text
    (dotted-word c.args.notation.now c.args.kind c.args.name.now (sym c.is_hidden.ensures ∙ c.if-is_hidden.false)
    (sym c.is_spelled.ensures ∙ c.if-is_spelled.false)) c.put_dotted.ensures
