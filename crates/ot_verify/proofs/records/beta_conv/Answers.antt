use Rattle.std.proofs.Common.{refl}
use Rattle.ot_verify.proofs.Recording.{answered-then, answered-stop, made-settled}
use Rattle.ot_verify.proofs.records.beta_conv.Goals as goal

pub returns-clause-recorded : goal.returns-clause-recorded
returns-clause-recorded g c =
    rw c.settle.ensures
    (answered-then refl _ c.in_ok-term.ensures.answered
    (λ x0 h0. made-settled refl c.beta_conv-made.result (c.beta_conv-made.ensures x0 h0)))

pub returns-in_err-term-clause-recorded : goal.returns-in_err-term-clause-recorded
returns-in_err-term-clause-recorded g c =
    answered-stop refl _ c.from_residual.result c.from_residual.ensures.1 c.in_err-term.ensures.answered
