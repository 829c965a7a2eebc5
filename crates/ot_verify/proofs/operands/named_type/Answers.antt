use Rattle.ot_log_format.specs.Records.{AskType}
use Rattle.ot_verify.proofs.Collecting.{both-read, first-stop, second-stop}
use Rattle.ot_verify.proofs.operands.named_type.Goals as goal

pub returns-clause-pair : goal.returns-clause-pair
returns-clause-pair g c =
    both-read (λ x t. (x, t)) c.in_ok-name.ensures.meets.state c.in_ok-name.ensures.answered
    c.in_ok-ty.ensures.answered (λ a b h k. (h, k))

pub returns-in_err-name-clause-pair : goal.returns-in_err-name-clause-pair
returns-in_err-name-clause-pair g c =
    first-stop AskType (λ x t. (x, t)) c.from_residual.result c.from_residual.ensures.1 c.in_err-name.ensures.answered

pub returns-in_err-ty-clause-pair : goal.returns-in_err-ty-clause-pair
returns-in_err-ty-clause-pair g c =
    second-stop (λ x t. (x, t)) c.in_ok-name.ensures.meets.state c.in_ok-name.ensures.answered
    c.from_residual-in_err-ty.result c.from_residual-in_err-ty.ensures.1 c.in_err-ty.ensures.answered

pub returns-clause-variable : goal.returns-clause-variable
returns-clause-variable g c =
    both-read (λ x t. record { name = x; ty = t }) c.in_ok-name.ensures.meets.state c.in_ok-name.ensures.answered
    c.in_ok-ty.ensures.answered (λ a b h k. (h, k))

pub returns-in_err-name-clause-variable : goal.returns-in_err-name-clause-variable
returns-in_err-name-clause-variable g c =
    first-stop AskType (λ x t. record { name = x; ty = t }) c.from_residual.result c.from_residual.ensures.1
    c.in_err-name.ensures.answered

pub returns-in_err-ty-clause-variable : goal.returns-in_err-ty-clause-variable
returns-in_err-ty-clause-variable g c =
    second-stop (λ x t. record { name = x; ty = t }) c.in_ok-name.ensures.meets.state c.in_ok-name.ensures.answered
    c.from_residual-in_err-ty.result c.from_residual-in_err-ty.ensures.1 c.in_err-ty.ensures.answered
