use Rattle.std.proofs.Common.{sym, ◌∙◌, length, refl}
use Rattle.ot_trace.specs.declared.step.Step.TheVariants as step
use Rattle.ot_log.proofs.Closed.{made-origin, made-inside, made-numbered}
use Rattle.ot_log.proofs.Worked.{write-other, write-named}
use Rattle.ot_log.proofs.worklist.theorem_step.Goals as goal

pub returns-then-makes_theorem-clause-some : goal.returns-then-makes_theorem-clause-some
returns-then-makes_theorem-clause-some c =
    let s = c.args.session.now in
    let ops = c.as_slice.result.now in
    record {
      word = c.in-Make.word;
      is = made-origin s c.args.id c.trace.result.now c.step.result.now c.in-Make.word c.in-Make.operands ops
          c.trace.ensures
          c.step.ensures.origin c.in-Make.is c.as_slice.ensures;
      numbered = made-numbered s c.args.id c.trace.result.now c.step.result.now c.in-Make.word c.in-Make.operands ops
          c.trace.ensures c.step.ensures.origin c.in-Make.is c.as_slice.ensures;
      makes = sym c.makes_theorem.ensures ∙ c.if-makes_theorem.true;
      inside = made-inside (length s.trace) c.args.id c.step.result.now c.in-Make.word c.in-Make.operands ops
          c.step.ensures.below
          c.in-Make.is c.as_slice.ensures c.requires;
    }

pub returns-else-makes_theorem-clause-none : goal.returns-else-makes_theorem-clause-none
returns-else-makes_theorem-clause-none c =
    write-other c.args.session.now _ c.in-Make.word _
    (made-origin c.args.session.now c.args.id c.trace.result.now c.step.result.now c.in-Make.word c.in-Make.operands
    c.in-Make.operands c.trace.ensures c.step.ensures.origin c.in-Make.is refl)
    (sym c.makes_theorem.ensures ∙ c.if-makes_theorem.false)

pub returns-in-Number-clause-none : goal.returns-in-Number-clause-none
returns-in-Number-clause-none c = write-named c.args.session.now c.args.id c.trace.result.now c.step.result.now
    (step.Number c.in-Number.field-0) tt c.trace.ensures c.step.ensures.origin c.in-Number.is

pub returns-in-Name-clause-none : goal.returns-in-Name-clause-none
returns-in-Name-clause-none c = write-named c.args.session.now c.args.id c.trace.result.now c.step.result.now
    (step.Name c.in-Name.field-0) tt c.trace.ensures c.step.ensures.origin c.in-Name.is

pub returns-in-Define-clause-none : goal.returns-in-Define-clause-none
returns-in-Define-clause-none c = write-named c.args.session.now c.args.id c.trace.result.now c.step.result.now
    (step.Define c.in-Define.field-0 c.in-Define.field-1 c.in-Define.field-2) tt c.trace.ensures c.step.ensures.origin
    c.in-Define.is

pub returns-in-Outcome-clause-none : goal.returns-in-Outcome-clause-none
returns-in-Outcome-clause-none c = write-named c.args.session.now c.args.id c.trace.result.now c.step.result.now
    (step.Outcome c.in-Outcome.field-0 c.in-Outcome.field-1) tt c.trace.ensures c.step.ensures.origin c.in-Outcome.is
