use Rattle.std.proofs.Common.{refl}
use Rattle.ot_verify.proofs.Recording.{answered-then, answered-stop, made-settled}
use Rattle.ot_verify.proofs.records.lam.Goals as goal

pub returns-clause-recorded : goal.returns-clause-recorded
returns-clause-recorded g c =
    rw c.settle.ensures
    (answered-then refl _ c.in_ok-ty.ensures.answered
    (λ x0 h0. answered-then refl _ c.in_ok-body.ensures.answered
    (λ x1 h1. made-settled refl c.lam-made.result (c.lam-made.ensures x0 x1 h0 h1))))

pub returns-in_err-ty-clause-recorded : goal.returns-in_err-ty-clause-recorded
returns-in_err-ty-clause-recorded g c =
    answered-stop refl _ c.from_residual.result c.from_residual.ensures.1 c.in_err-ty.ensures.answered

pub returns-in_err-body-clause-recorded : goal.returns-in_err-body-clause-recorded
returns-in_err-body-clause-recorded g c =
    answered-then refl _ c.in_ok-ty.ensures.answered
    (λ x0 h0. answered-stop refl _ c.from_residual-in_err-body.result c.from_residual-in_err-body.ensures.1
    c.in_err-body.ensures.answered)
