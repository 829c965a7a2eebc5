use Rattle.std.proofs.Common.{◌∙◌, sym}
use Rattle.ot_logic.specs.Names.{spelled}
use Rattle.ot_forms.specs.Words.{is_bare, dotted}
use Rattle.ot_text.proofs.Putting.{same-text}
use Rattle.ot_text.proofs.TypePieces.{cond-true, cond-false}
use Rattle.ot_pretty.proofs.words.put_plain.Goals as goal

pub returns-then-is_bare : goal.returns-then-is_bare
returns-then-is_bare c =
    same-text (cond-true (is_bare c.args.name.now) (dotted c.args.name.now) (spelled c.args.name.now)
    (sym c.is_bare.ensures ∙ c.if-is_bare.true)) c.put_dotted.ensures

pub returns-else-is_bare : goal.returns-else-is_bare
returns-else-is_bare c =
    same-text (cond-false (is_bare c.args.name.now) (dotted c.args.name.now) (spelled c.args.name.now)
    (sym c.is_bare.ensures ∙ c.if-is_bare.false)) c.put_name.ensures
