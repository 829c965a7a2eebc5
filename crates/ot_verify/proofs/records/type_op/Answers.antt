use Rattle.std.proofs.Common.{◌∙◌, refl, sym, subst}
use Rattle.ot_verify.specs.Asking.{IsAt, AreEach}
use Rattle.ot_verify.specs.Logged.{IsNamed}
use Rattle.ot_verify.proofs.Recording.{answered-then, answered-stop, made-settled}
use Rattle.ot_verify.proofs.records.type_op.Goals as goal

pub returns-clause-recorded : goal.returns-clause-recorded
returns-clause-recorded g c =
    let same_args = c.in_ok-args.ensures.meets.state ∙ c.in_ok-name.ensures.meets.state in
    rw c.settle.ensures
    (answered-then refl _ c.in_ok-name.ensures.answered
    (λ x0 h0. answered-then c.in_ok-name.ensures.meets.state _ c.in_ok-args.ensures.answered
    (λ x1 h1. made-settled same_args c.type_op-made.result (c.type_op-made.ensures x0 x1
    (subst (λ v. IsNamed v c.in_ok-name.name x0) (sym (c.in_ok-args.ensures.unchanged refl)) h0)
    (subst (λ is. AreEach (IsAt c.list.new.log.state.types) is x1) (sym c.as_slice.ensures.value) h1)))))

pub returns-in_err-name-clause-recorded : goal.returns-in_err-name-clause-recorded
returns-in_err-name-clause-recorded g c =
    answered-stop refl _ c.from_residual.result c.from_residual.ensures.1 c.in_err-name.ensures.answered

pub returns-in_err-args-clause-recorded : goal.returns-in_err-args-clause-recorded
returns-in_err-args-clause-recorded g c =
    answered-then refl _ c.in_ok-name.ensures.answered
    (λ x0 h0. answered-stop c.in_ok-name.ensures.meets.state _ c.from_residual-in_err-args.result
    c.from_residual-in_err-args.ensures.1 c.in_err-args.ensures.answered)
