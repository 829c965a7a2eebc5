use Rattle.std.proofs.Common.{refl}
use Rattle.ot_verify.proofs.Recording.{answered-then, answered-stop, made-settled}
use Rattle.ot_verify.proofs.records.constant_term.Goals as goal

pub returns-clause-recorded : goal.returns-clause-recorded
returns-clause-recorded g c =
    rw c.settle.ensures
    (answered-then refl _ c.in_ok-name.ensures.answered
    (λ x0 h0. answered-then c.in_ok-name.ensures.meets.state _ c.in_ok-ty.ensures.answered
    (λ x1 h1. made-settled c.in_ok-name.ensures.meets.state c.constant_term-made.result (c.constant_term-made.ensures
    x0 x1 h0 h1))))

pub returns-in_err-name-clause-recorded : goal.returns-in_err-name-clause-recorded
returns-in_err-name-clause-recorded g c =
    answered-stop refl _ c.from_residual.result c.from_residual.ensures.1 c.in_err-name.ensures.answered

pub returns-in_err-ty-clause-recorded : goal.returns-in_err-ty-clause-recorded
returns-in_err-ty-clause-recorded g c =
    answered-then refl _ c.in_ok-name.ensures.answered
    (λ x0 h0. answered-stop c.in_ok-name.ensures.meets.state _ c.from_residual-in_err-ty.result
    c.from_residual-in_err-ty.ensures.1 c.in_err-ty.ensures.answered)
