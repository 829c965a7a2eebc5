use Rattle.ot_log_format.specs.Records.{ask_variable}
use Rattle.ot_verify.specs.Later.{named-later}
use Rattle.ot_verify.proofs.Collecting.{both-read, first-stop, second-stop}
use Rattle.ot_verify.proofs.Meeting.{meets-then}
use Rattle.ot_verify.proofs.lists.ConstantPairOperand.read.Goals as goal

pub returns-clause-answered : goal.returns-clause-answered
returns-clause-answered g c =
    both-read (λ x v. (x, v)) c.in_ok-constant.ensures.meets.state c.in_ok-constant.ensures.answered
    c.in_ok-variable.ensures.variable
    (λ a b h k. (
      named-later c.name_number.new.log c.named_type.new.log c.in_ok-constant.constant a
          c.in_ok-variable.ensures.meets h,
      k,
    ))

pub returns-in_err-constant-clause-answered : goal.returns-in_err-constant-clause-answered
returns-in_err-constant-clause-answered g c =
    first-stop ask_variable (λ x v. (x, v)) c.from_residual.result c.from_residual.ensures.1
    c.in_err-constant.ensures.answered

pub returns-in_err-variable-clause-answered : goal.returns-in_err-variable-clause-answered
returns-in_err-variable-clause-answered g c =
    second-stop (λ x v. (x, v)) c.in_ok-constant.ensures.meets.state c.in_ok-constant.ensures.answered
    c.from_residual-in_err-variable.result c.from_residual-in_err-variable.ensures.1 c.in_err-variable.ensures.variable

pub returns-clause-meets : goal.returns-clause-meets
returns-clause-meets g c =
    meets-then c.args.log.now c.name_number.new.log c.named_type.new.log c.in_ok-constant.ensures.meets
    c.in_ok-variable.ensures.meets

pub returns-in_err-variable-clause-meets : goal.returns-in_err-variable-clause-meets
returns-in_err-variable-clause-meets g c =
    meets-then c.args.log.now c.name_number.new.log c.named_type.new.log c.in_ok-constant.ensures.meets
    c.in_err-variable.ensures.meets
