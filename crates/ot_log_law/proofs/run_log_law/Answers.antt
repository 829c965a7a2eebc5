use Rattle.ot_log_law.proofs.RunLog.{run-log-law}
use Rattle.ot_log_law.proofs.run_log_law.Goals as goal

pub returns : goal.returns
returns c = run-log-law
