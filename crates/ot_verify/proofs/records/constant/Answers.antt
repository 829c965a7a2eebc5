use Rattle.std.proofs.Common.{refl}
use Rattle.ot_verify.proofs.Recording.{answered-then, answered-stop, made-settled}
use Rattle.ot_verify.proofs.records.constant.Goals as goal

pub returns-clause-recorded : goal.returns-clause-recorded
returns-clause-recorded g c =
    rw c.settle.ensures
    (answered-then refl _ c.in_ok-name.ensures.answered
    (λ x0 h0. answered-then c.in_ok-name.ensures.meets.state _ c.in_ok-term.ensures.answered
    (λ x1 h1. made-settled c.in_ok-name.ensures.meets.state c.define_constant-made.result
    (c.define_constant-made.ensures x0 x1 h0 h1))))

pub returns-in_err-name-clause-recorded : goal.returns-in_err-name-clause-recorded
returns-in_err-name-clause-recorded g c =
    answered-stop refl _ c.from_residual.result c.from_residual.ensures.1 c.in_err-name.ensures.answered

pub returns-in_err-term-clause-recorded : goal.returns-in_err-term-clause-recorded
returns-in_err-term-clause-recorded g c =
    answered-then refl _ c.in_ok-name.ensures.answered
    (λ x0 h0. answered-stop c.in_ok-name.ensures.meets.state _ c.from_residual-in_err-term.result
    c.from_residual-in_err-term.ensures.1 c.in_err-term.ensures.answered)
