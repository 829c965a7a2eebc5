use Rattle.ot_program.proofs.LogLemmas.{log_ended}
use Rattle.ot_program.proofs.log.log_verdict.Goals as goal

pub returns-in-Ok : goal.returns-in-Ok
returns-in-Ok c =
    rw c.in-Ok.is (log_ended c.args.path.now c.in-Ok.verified
    c.log_summary.result c.log_summary.ensures (rw c.in-Ok.is at c.requires)
    c.one_text.ensures)
