use Rattle.ot_scan.proofs.Limits.{names_limit}
use Rattle.ot_scan.proofs.laws.earlier_limit.Goals as goal

pub returns : goal.returns
returns c = names_limit
