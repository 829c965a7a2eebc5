use Rattle.std.proofs.Common.{refl, arith}
use Rattle.ot_parse.specs.Values.{meant_of}
use Rattle.ot_parse.proofs.Halts.{handed-on}
use Rattle.ot_parse.proofs.TermBacks.{no-signs, no-sign-space, operator-in}
use Rattle.ot_parse.proofs.Lengths.{signs-length, space-length}
use Rattle.ot_parse.proofs.terms.operator.Goals as goal

pub returns-in_err-word-clause-read : goal.returns-in_err-word-clause-read
returns-in_err-word-clause-read c = λ h m l d x w.
    rw (handed-on _ _ c.from_residual.ensures.1)
    (no-signs c.args.total h m l c.args.at (meant_of c.args.part) c.args.text.now
    c.in_err-word.field-0.0 c.in_err-word.ensures)

pub returns-in_err-rest-clause-read : goal.returns-in_err-rest-clause-read
returns-in_err-rest-clause-read c = λ h m l d x w.
    rw (handed-on _ _ c.from_residual-in_err-rest.ensures.1)
    (no-sign-space c.args.total h m l c.args.at (meant_of c.args.part)
    c.args.text.now c.in_ok-word.word.now c.in_ok-word.end.now c.in_err-rest.field-0.0 c.in_ok-word.ensures
    c.in_err-rest.ensures)

pub returns-clause-read : goal.returns-clause-read
returns-clause-read c = λ h m l d x w.
    operator-in c.args.total h m l c.args.at c.args.place c.place_of-next.result c.args.part c.whole-left.result
    c.args.text.now c.in_ok-word.word.now c.in_ok-word.end.now c.in_ok-rest.rest.now
    d w c.in_ok-word.ensures c.in_ok-rest.ensures c.place_of-next.ensures
    (rw c.is_relation.ensures at (c.whole-left.ensures l x)) c.in_ok-word.word refl

pub returns-clause-shorter : goal.returns-clause-shorter
returns-clause-shorter c =
    let a = signs-length c.args.text.now c.in_ok-word.word.now c.in_ok-word.end.now c.in_ok-word.ensures in
    let b = space-length c.in_ok-word.end.now c.in_ok-rest.rest.now c.in_ok-rest.ensures in omega (arith, a, b)
