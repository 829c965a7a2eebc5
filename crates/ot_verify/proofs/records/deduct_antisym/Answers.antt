use Rattle.std.proofs.Common.{refl}
use Rattle.ot_verify.proofs.Recording.{answered-then, answered-stop, made-settled}
use Rattle.ot_verify.proofs.records.deduct_antisym.Goals as goal

pub returns-clause-recorded : goal.returns-clause-recorded
returns-clause-recorded g c =
    rw c.settle.ensures
    (answered-then refl _ c.in_ok-left.ensures.answered
    (λ x0 h0. answered-then refl _ c.in_ok-right.ensures.answered
    (λ x1 h1. made-settled refl c.deduct_antisym-made.result (c.deduct_antisym-made.ensures x0 x1 h0 h1))))

pub returns-in_err-left-clause-recorded : goal.returns-in_err-left-clause-recorded
returns-in_err-left-clause-recorded g c =
    answered-stop refl _ c.from_residual.result c.from_residual.ensures.1 c.in_err-left.ensures.answered

pub returns-in_err-right-clause-recorded : goal.returns-in_err-right-clause-recorded
returns-in_err-right-clause-recorded g c =
    answered-then refl _ c.in_ok-left.ensures.answered
    (λ x0 h0. answered-stop refl _ c.from_residual-in_err-right.result c.from_residual-in_err-right.ensures.1
    c.in_err-right.ensures.answered)
