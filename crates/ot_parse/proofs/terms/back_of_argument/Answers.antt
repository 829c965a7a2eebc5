use Rattle.ot_parse.specs.Values.{meant_of}
use Rattle.ot_parse.proofs.Halts.{handed-on}
use Rattle.ot_parse.proofs.TypeFronts.{not-equal}
use Rattle.ot_parse.proofs.TermBacks.{nothing-further, argument-further, argument-halts, argument-whole, is-equal}
use Rattle.std.specs.Prelude.{codes}
use Rattle.std.proofs.Common.{◌≡◌, ◌+◌, length, arith}
use Rattle.ot_parse.proofs.Lengths.{literal-length}
use Rattle.ot_parse.proofs.terms.back_of_argument.Goals as goal

pub returns-in-None-clause-read : goal.returns-in-None-clause-read
returns-in-None-clause-read c = λ m l k x w. nothing-further c.args.total c.args.notation.now m l c.args.at c.args.place
    (meant_of c.args.function) (meant_of c.args.part) c.args.text.now c.in-None.ensures.cases

pub returns-then-byte-eq32-clause-read : goal.returns-then-byte-eq32-clause-read
returns-then-byte-eq32-clause-read c = λ m l k x w.
    let e = c.in-Some.ensures.cases.0 in
    let argument = c.whole-argument.ensures l x in
    let made = c.in_ok-applied.ensures l k argument.kept in
    rw e (argument-further c.args.total c.args.notation.now m l c.sound.ensures c.args.at c.args.place
    c.place_of-place.result c.args.function c.args.part c.whole-argument.result c.in_ok-applied.applied
    c.whole-function.result c.in-Some.byte.now c.in-Some.after.now
    (rw e at w) (is-equal c.in-Some.byte.now 32 c.if-byte-eq32.true) c.place_of-place.ensures argument made
    (c.whole-function.ensures l made.kept))

pub returns-in_err-rest-in-Some-clause-read : goal.returns-in_err-rest-in-Some-clause-read
returns-in_err-rest-in-Some-clause-read c = λ m l k x w.
    let e = c.in-Some.ensures.cases.0 in
    rw (handed-on _ _ c.from_residual-in_err-rest-in-Some.ensures.1, e)
    (argument-halts c.args.total c.args.notation.now m l c.args.at c.args.place (meant_of c.args.function)
    (meant_of c.args.part) c.in-Some.byte.now c.in-Some.after.now c.in_err-rest-in-Some.field-0.0
    (not-equal c.in-Some.byte.now 32 c.if-byte-eq32.false) (rw e at c.in_err-rest-in-Some.ensures))

pub returns-in_ok-rest-in-Some-clause-read : goal.returns-in_ok-rest-in-Some-clause-read
returns-in_ok-rest-in-Some-clause-read c = λ m l k x w.
    let e = c.in-Some.ensures.cases.0 in
    let argument = c.whole-argument.ensures l x in
    rw e (argument-whole c.args.total c.args.notation.now m l c.args.at c.args.place c.args.function c.args.part
    c.whole-argument.result c.in_ok-applied.applied c.in-Some.byte.now c.in-Some.after.now c.in_ok-rest-in-Some.rest.now
    (rw e at w) (not-equal c.in-Some.byte.now 32 c.if-byte-eq32.false) (rw e at c.in_ok-rest-in-Some.ensures) argument
    (c.in_ok-applied.ensures l k argument.kept))

pub returns-then-byte-eq32-clause-shorter : goal.returns-then-byte-eq32-clause-shorter
returns-then-byte-eq32-clause-shorter c = let w = c.in-Some.ensures.cases.1 in omega (arith, w)

pub returns-in_ok-rest-in-Some-clause-shorter : goal.returns-in_ok-rest-in-Some-clause-shorter
returns-in_ok-rest-in-Some-clause-shorter c =
    let r = c.in_ok-rest-in-Some in
    let a : length c.args.text.now ≡ 1 + length r.rest.now =
    literal-length (codes ")") c.args.text.now r.rest.now r.ensures in omega (arith, a)
