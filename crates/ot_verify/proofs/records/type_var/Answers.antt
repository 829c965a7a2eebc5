use Rattle.std.proofs.Common.{refl}
use Rattle.ot_verify.proofs.Recording.{answered-then, answered-stop, made-settled}
use Rattle.ot_verify.proofs.records.type_var.Goals as goal

pub returns-clause-recorded : goal.returns-clause-recorded
returns-clause-recorded g c =
    rw c.settle.ensures
    (answered-then refl _ c.in_ok-name.ensures.answered
    (λ x0 h0. made-settled c.in_ok-name.ensures.meets.state c.type_var-made.result (c.type_var-made.ensures x0 h0)))

pub returns-in_err-name-clause-recorded : goal.returns-in_err-name-clause-recorded
returns-in_err-name-clause-recorded g c =
    answered-stop refl _ c.from_residual.result c.from_residual.ensures.1 c.in_err-name.ensures.answered
