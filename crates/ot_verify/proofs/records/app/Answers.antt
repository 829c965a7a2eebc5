use Rattle.std.proofs.Common.{refl}
use Rattle.ot_verify.proofs.Recording.{answered-then, answered-stop, made-settled}
use Rattle.ot_verify.proofs.records.app.Goals as goal

pub returns-clause-recorded : goal.returns-clause-recorded
returns-clause-recorded g c =
    rw c.settle.ensures
    (answered-then refl _ c.in_ok-f.ensures.answered
    (λ x0 h0. answered-then refl _ c.in_ok-x.ensures.answered
    (λ x1 h1. made-settled refl c.app-made.result (c.app-made.ensures x0 x1 h0 h1))))

pub returns-in_err-f-clause-recorded : goal.returns-in_err-f-clause-recorded
returns-in_err-f-clause-recorded g c =
    answered-stop refl _ c.from_residual.result c.from_residual.ensures.1 c.in_err-f.ensures.answered

pub returns-in_err-x-clause-recorded : goal.returns-in_err-x-clause-recorded
returns-in_err-x-clause-recorded g c =
    answered-then refl _ c.in_ok-f.ensures.answered
    (λ x0 h0. answered-stop refl _ c.from_residual-in_err-x.result c.from_residual-in_err-x.ensures.1
    c.in_err-x.ensures.answered)
