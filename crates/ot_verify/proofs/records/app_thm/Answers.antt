use Rattle.std.proofs.Common.{refl}
use Rattle.ot_verify.proofs.Recording.{answered-then, answered-stop, made-settled}
use Rattle.ot_verify.proofs.records.app_thm.Goals as goal

pub returns-clause-recorded : goal.returns-clause-recorded
returns-clause-recorded g c =
    rw c.settle.ensures
    (answered-then refl _ c.in_ok-functions.ensures.answered
    (λ x0 h0. answered-then refl _ c.in_ok-arguments.ensures.answered
    (λ x1 h1. made-settled refl c.app_thm-made.result (c.app_thm-made.ensures x0 x1 h0 h1))))

pub returns-in_err-functions-clause-recorded : goal.returns-in_err-functions-clause-recorded
returns-in_err-functions-clause-recorded g c =
    answered-stop refl _ c.from_residual.result c.from_residual.ensures.1 c.in_err-functions.ensures.answered

pub returns-in_err-arguments-clause-recorded : goal.returns-in_err-arguments-clause-recorded
returns-in_err-arguments-clause-recorded g c =
    answered-then refl _ c.in_ok-functions.ensures.answered
    (λ x0 h0. answered-stop refl _ c.from_residual-in_err-arguments.result c.from_residual-in_err-arguments.ensures.1
    c.in_err-arguments.ensures.answered)
