use Rattle.std.proofs.Common.{arith, subst, length}
use Rattle.ot_forms.specs.Reading.{Got}
use Rattle.ot_parse.specs.Values.{meant_of}
use Rattle.ot_parse.specs.TermCode.{reversed, EndsWithin}
use Rattle.ot_parse.proofs.Halts.{handed-on}
use Rattle.ot_parse.proofs.TermLoops.{IsClosedTo, closing-start, closing-step, closing-halts, closing-end}
use Rattle.ot_parse.proofs.terms.close.Goals as goal

pub open-init : goal.open-init
open-init c = (
  (λ k m w. closing-start c.args.total c.args.notation.now c.args.frames.now.items c.args.part c.args.text.now k m w),
  omega arith,
)

pub returns-in-None-clause-read : goal.returns-in-None-clause-read
returns-in-None-clause-read c = λ k m w.
    let d = c.in-None.ensures.cases.0 in let f = c.open.frames.ok.0 in
    closing-end c.args.total c.args.notation.now (reversed c.args.frames.now.items)
    (Got (meant_of c.args.part) c.args.text.now) c.open.frames.items c.open.part c.open.rest.now
    (omega (arith, d, f)) (c.open.invariant.0 k m w)

pub returns-in_err-inside-in-Some-clause-read : goal.returns-in_err-inside-in-Some-clause-read
returns-in_err-inside-in-Some-clause-read c = λ k m w.
    rw (handed-on _ _ c.from_residual.ensures.1)
    (closing-halts c.args.total c.args.notation.now (reversed c.args.frames.now.items) (Got (meant_of c.args.part)
    c.args.text.now) c.open.frames.items c.pop.new.self.items c.in-Some.inside c.open.part c.open.rest.now
    c.in-Some.ensures.items (c.open.invariant.0 k m w) c.in_err-inside-in-Some.field-0.0
    c.in_err-inside-in-Some.ensures.read)

pub returns-in-Further-clause-read : goal.returns-in-Further-clause-read
returns-in-Further-clause-read c = λ k m w.
    let os = reversed c.args.frames.now.items in let o = Got (meant_of c.args.part) c.args.text.now in
    subst (IsClosedTo c.args.total c.args.notation.now os o c.pop.new.self.items) c.in-Further.is
    (closing-step c.args.total c.args.notation.now os o c.open.frames.items c.pop.new.self.items c.in-Some.inside
    c.open.part c.open.rest.now c.in-Some.ensures.items (c.open.invariant.0 k m w) c.in_ok-inside-in-Some.field-0
    c.in_ok-inside-in-Some.ensures.read)

pub open-preserved : goal.open-preserved
open-preserved c =
    let b = subst (EndsWithin (length c.open.rest.now)) c.in-Whole.is c.in_ok-inside-in-Some.ensures.shorter in
    let v = c.open.invariant.1 in (
      (λ k m w.
          let os = reversed c.args.frames.now.items in let o = Got (meant_of c.args.part) c.args.text.now in
          subst (IsClosedTo c.args.total c.args.notation.now os o c.pop.new.self.items) c.in-Whole.is
          (closing-step c.args.total c.args.notation.now os o c.open.frames.items c.pop.new.self.items
          c.in-Some.inside c.open.part c.open.rest.now c.in-Some.ensures.items (c.open.invariant.0 k m w)
          c.in_ok-inside-in-Some.field-0 c.in_ok-inside-in-Some.ensures.read)),
      omega (arith, b, v),
    )

pub returns-in-Further-clause-shorter : goal.returns-in-Further-clause-shorter
returns-in-Further-clause-shorter c =
    let b = subst (EndsWithin (length c.open.rest.now)) c.in-Further.is c.in_ok-inside-in-Some.ensures.shorter in
    let v = c.open.invariant.1 in omega (arith, b, v)
