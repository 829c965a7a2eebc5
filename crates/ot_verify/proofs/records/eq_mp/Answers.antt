use Rattle.std.proofs.Common.{refl}
use Rattle.ot_verify.proofs.Recording.{answered-then, answered-stop, made-settled}
use Rattle.ot_verify.proofs.records.eq_mp.Goals as goal

pub returns-clause-recorded : goal.returns-clause-recorded
returns-clause-recorded g c =
    rw c.settle.ensures
    (answered-then refl _ c.in_ok-equation.ensures.answered
    (λ x0 h0. answered-then refl _ c.in_ok-other.ensures.answered
    (λ x1 h1. made-settled refl c.eq_mp-made.result (c.eq_mp-made.ensures x0 x1 h0 h1))))

pub returns-in_err-equation-clause-recorded : goal.returns-in_err-equation-clause-recorded
returns-in_err-equation-clause-recorded g c =
    answered-stop refl _ c.from_residual.result c.from_residual.ensures.1 c.in_err-equation.ensures.answered

pub returns-in_err-other-clause-recorded : goal.returns-in_err-other-clause-recorded
returns-in_err-other-clause-recorded g c =
    answered-then refl _ c.in_ok-equation.ensures.answered
    (λ x0 h0. answered-stop refl _ c.from_residual-in_err-other.result c.from_residual-in_err-other.ensures.1
    c.in_err-other.ensures.answered)
