use Rattle.std.proofs.Common.{◌≡◌, Some, slice_get, sym, ap, subst}
use Rattle.ot_trace.specs.Trace as trace
use Rattle.ot_log_values.specs.Steps.{IsMadeOf}
use Rattle.ot_log_values.proofs.Stepping.{made-is, not-make}
use Rattle.ot_log_values.proofs.steps.making.Goals as goal

pub returns-clause-made : goal.returns-clause-made
returns-clause-made c =
    let s = c.args.session.now in
    let at = subst (λ ts. slice_get ts c.args.id ≡ Some (trace.origin_of ts c.step.result.now))
    c.trace.ensures c.step.ensures.origin in
    let made = made-is s c.args.id (trace.origin_of s.trace c.step.result.now) c.in-Make.word c.in-Make.operands
    at
    (ap (trace.origin_of s.trace) c.in-Make.is) in
    subst (λ is. IsMadeOf s c.in-Make.word is c.args.id) (sym c.as_slice.ensures) made

pub unreachable-requires : goal.unreachable-requires
unreachable-requires c =
    not-make c.args.session.now c.args.id c.trace.result.now c.step.result.now c.trace.ensures c.step.ensures.origin
    c.in_default.not-Make c.requires.make
