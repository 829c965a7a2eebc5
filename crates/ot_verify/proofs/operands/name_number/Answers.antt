use Rattle.ot_verify.proofs.Numbering.{numbered, numbered-stop, numbered-memory}
use Rattle.ot_verify.proofs.operands.name_number.Goals as goal

pub returns-clause-answered : goal.returns-clause-answered
returns-clause-answered g c =
    numbered c.intern.new.self (c.in_ok-name.ensures.answered c.args.log.now.state) c.in_ok-intern.ensures.ok

pub returns-in_err-name-clause-answered : goal.returns-in_err-name-clause-answered
returns-in_err-name-clause-answered g c =
    numbered-stop c.args.log.now c.from_residual.result c.from_residual.ensures.1
    (c.in_err-name.ensures.answered c.args.log.now.state)

pub returns-in_err-intern-clause-answered : goal.returns-in_err-intern-clause-answered
returns-in_err-intern-clause-answered g c =
    numbered-memory c.intern.new.self c.from_residual-in_err-intern.result c.from_residual-in_err-intern.ensures.1
    (c.in_ok-name.ensures.answered c.args.log.now.state)
