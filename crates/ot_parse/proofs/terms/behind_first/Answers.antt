use Rattle.std.proofs.Common.{◌∙◌, sym, subst}
use Rattle.ot_parse.specs.Values.{meant_of}
use Rattle.ot_parse.specs.TermCode.{IsBack}
use Rattle.ot_parse.proofs.TermBacks.{nothing-behind, sign-goes, argument-in}
use Rattle.ot_parse.proofs.terms.behind_first.Goals as goal

pub returns-in-None-clause-read : goal.returns-in-None-clause-read
returns-in-None-clause-read c = λ h m l d x w.
    nothing-behind c.args.total h m l c.args.at (meant_of c.args.part) c.args.text.now
    c.in-None.ensures.cases

pub returns-then-is_sign-clause-read : goal.returns-then-is_sign-clause-read
returns-then-is_sign-clause-read c = λ h m l d x w.
    let e = c.in-Some.ensures.cases.0 in
    rw e (subst (λ o. IsBack c.args.total h m l o c.operator.result)
    (sym (sign-goes c.args.total h m l c.args.at (meant_of c.args.part) c.in-Some.byte.now c.in-Some.field-0-1.now
    (sym c.is_sign.ensures ∙ c.if-is_sign.true))) (rw e at (c.operator.ensures.read h m l d x w)))

pub returns-else-is_sign-clause-read : goal.returns-else-is_sign-clause-read
returns-else-is_sign-clause-read c = λ h m l d x w.
    let e = c.in-Some.ensures.cases.0 in
    rw e (argument-in c.args.total h m l c.args.at c.args.place c.place_of-next.result c.args.part
    c.whole-function.result c.in-Some.byte.now c.in-Some.field-0-1.now d (sym c.is_sign.ensures
    ∙ c.if-is_sign.false) (rw e at w) (rw e at c.place_of-next.ensures) (c.whole-function.ensures l x))
