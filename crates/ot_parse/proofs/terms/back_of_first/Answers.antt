use Rattle.std.proofs.Common.{sym, subst, arith, suc, length}
use Rattle.ot_parse.specs.Values.{meant_of}
use Rattle.ot_parse.specs.TermCode.{IsBack}
use Rattle.ot_parse.proofs.Halts.{handed-on}
use Rattle.ot_parse.proofs.Lengths.{space-length}
use Rattle.ot_parse.proofs.TermBacks.{no-space, space-goes}
use Rattle.ot_parse.proofs.Passing.{term-ends}
use Rattle.ot_parse.proofs.terms.back_of_first.Goals as goal

pub returns-in_err-rest-clause-read : goal.returns-in_err-rest-clause-read
returns-in_err-rest-clause-read c = λ h m l d x w.
    rw (handed-on _ _ c.from_residual.ensures.1)
    (no-space c.args.total h m l c.args.at (meant_of c.args.part) c.args.text.now
    c.in_err-rest.field-0.0 c.in_err-rest.ensures)

pub returns-clause-read : goal.returns-clause-read
returns-clause-read c = λ h m l d x w.
    let a = space-length c.args.text.now c.in_ok-rest.rest.now c.in_ok-rest.ensures in
    subst (λ o. IsBack c.args.total h m l o c.behind_first.result)
    (sym (space-goes c.args.total h m l c.args.at (meant_of c.args.part) c.args.text.now c.in_ok-rest.rest.now
    c.in_ok-rest.ensures)) (c.behind_first.ensures.read h m l d x (omega (arith, a, w)))

pub returns-clause-shorter : goal.returns-clause-shorter
returns-clause-shorter c =
    let a = space-length c.args.text.now c.in_ok-rest.rest.now c.in_ok-rest.ensures in
    term-ends (suc (length c.in_ok-rest.rest.now)) (length c.args.text.now) c.behind_first.result (omega (arith, a))
    c.behind_first.ensures.shorter
