use Rattle.ot_log_format.specs.Records.{AskTerm}
use Rattle.ot_verify.proofs.Collecting.{both-read, first-stop, second-stop}
use Rattle.ot_verify.proofs.lists.TermPairOperand.read.Goals as goal

pub returns-clause-answered : goal.returns-clause-answered
returns-clause-answered g c =
    both-read (λ v t. (v, t)) c.in_ok-variable.ensures.meets.state c.in_ok-variable.ensures.variable
    c.in_ok-term.ensures.answered (λ a b h k. (h, k))

pub returns-in_err-variable-clause-answered : goal.returns-in_err-variable-clause-answered
returns-in_err-variable-clause-answered g c =
    first-stop AskTerm (λ v t. (v, t)) c.from_residual.result c.from_residual.ensures.1
    c.in_err-variable.ensures.variable

pub returns-in_err-term-clause-answered : goal.returns-in_err-term-clause-answered
returns-in_err-term-clause-answered g c =
    second-stop (λ v t. (v, t)) c.in_ok-variable.ensures.meets.state c.in_ok-variable.ensures.variable
    c.from_residual-in_err-term.result c.from_residual-in_err-term.ensures.1 c.in_err-term.ensures.answered
