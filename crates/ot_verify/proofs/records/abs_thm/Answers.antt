use Rattle.std.proofs.Common.{refl}
use Rattle.ot_logic.specs.Naming.{names}
use Rattle.ot_log_format.specs.Steps.{abs_thm_step}
use Rattle.ot_log_format.specs.State.{makes_sequent}
use Rattle.ot_log_format.specs.Records.{Makes, AskSequent}
use Rattle.ot_verify.proofs.Recording.{answered-then, answered-stop, made-settled}
use Rattle.ot_verify.proofs.records.abs_thm.Goals as goal

pub returns-clause-recorded : goal.returns-clause-recorded
returns-clause-recorded g c =
    rw c.settle.ensures
    (answered-then refl (λ x0. AskSequent (λ x1. Makes (makes_sequent names (abs_thm_step names x0 x1))))
    c.in_ok-variable.ensures.variable
    (λ x0 h0. answered-then c.in_ok-variable.ensures.meets.state _ c.in_ok-equation.ensures.answered
    (λ x1 h1. made-settled c.in_ok-variable.ensures.meets.state c.abs_thm-made.result (c.abs_thm-made.ensures x0 x1
    h0 h1))))

pub returns-in_err-variable-clause-recorded : goal.returns-in_err-variable-clause-recorded
returns-in_err-variable-clause-recorded g c =
    answered-stop refl (λ x0. AskSequent (λ x1. Makes (makes_sequent names (abs_thm_step names x0 x1))))
    c.from_residual.result c.from_residual.ensures.1 c.in_err-variable.ensures.variable

pub returns-in_err-equation-clause-recorded : goal.returns-in_err-equation-clause-recorded
returns-in_err-equation-clause-recorded g c =
    answered-then refl (λ x0. AskSequent (λ x1. Makes (makes_sequent names (abs_thm_step names x0 x1))))
    c.in_ok-variable.ensures.variable
    (λ x0 h0. answered-stop c.in_ok-variable.ensures.meets.state _ c.from_residual-in_err-equation.result
    c.from_residual-in_err-equation.ensures.1 c.in_err-equation.ensures.answered)
