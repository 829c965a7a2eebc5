use Rattle.std.proofs.Common.{arith}
use Rattle.std.proofs.lemmas.Bool.Decides.{nat_tests}
use Rattle.ot_parse.specs.Values.{meant_of}
use Rattle.ot_parse.specs.ReadLines.{meant_at, IsWholeText}
use Rattle.ot_parse.proofs.Handing.{handed}
use Rattle.ot_parse.proofs.WholeLines.{stopped, trails, ends}
use Rattle.ot_parse.proofs.reader.read_whole.Goals as goal

pub returns-in_err-term : goal.returns-in_err-term
returns-in_err-term c =
    handed c.from_residual.result c.in_err-term.field-0.0
    (IsWholeText (meant_at c.args.notation.now c.args.total c.args.wanted c.args.text.now)) c.from_residual.ensures.1
    (stopped (meant_at c.args.notation.now c.args.total c.args.wanted c.args.text.now) c.in_err-term.field-0.0
    c.in_err-term.ensures.read)

pub returns-then-is_empty : goal.returns-then-is_empty
returns-then-is_empty c = ends (meant_at c.args.notation.now c.args.total c.args.wanted c.args.text.now)
    (meant_of c.in_ok-term.term) c.in_ok-term.rest.now c.in_ok-term.ensures.read
    (grind (arith, nat_tests, c.is_empty.ensures, c.if-is_empty.true))

pub returns-else-is_empty : goal.returns-else-is_empty
returns-else-is_empty c = trails (meant_at c.args.notation.now c.args.total c.args.wanted c.args.text.now)
    (meant_of c.in_ok-term.term) c.in_ok-term.rest.now c.in_ok-term.ensures.read
    (λ e. grind (arith, nat_tests, c.is_empty.ensures, c.if-is_empty.false))
