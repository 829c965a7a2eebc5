use Rattle.std.proofs.Common.{refl}
use Rattle.ot_logic.specs.Naming.{names}
use Rattle.ot_logic.specs.Trees.{Free}
use Rattle.ot_log_format.specs.State.{makes_term}
use Rattle.ot_log_format.specs.Records.{Makes}
use Rattle.ot_verify.proofs.Recording.{answered-then, answered-stop, made-settled}
use Rattle.ot_verify.proofs.records.free.Goals as goal

pub returns-clause-recorded : goal.returns-clause-recorded
returns-clause-recorded g c =
    rw c.settle.ensures
    (answered-then refl (λ x0. Makes (makes_term names (Free x0))) c.in_ok-variable.ensures.variable
    (λ x0 h0. made-settled c.in_ok-variable.ensures.meets.state c.free-made.result (c.free-made.ensures x0 h0)))

pub returns-in_err-variable-clause-recorded : goal.returns-in_err-variable-clause-recorded
returns-in_err-variable-clause-recorded g c =
    answered-stop refl (λ x0. Makes (makes_term names (Free x0))) c.from_residual.result c.from_residual.ensures.1
    c.in_err-variable.ensures.variable
