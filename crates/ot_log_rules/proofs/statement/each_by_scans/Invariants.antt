use Rattle.std.proofs.Common.{◌≡◌, ◌++◌, drop}
use Rattle.ot_log_rules.specs.Statements.{once_of}
use Rattle.ot_log_rules.proofs.statement.each_by_scans.Given as goal

abbrev pub invariant-loop-i : goal.invariant-loop-i
invariant-loop-i l = l.once.items ++ once_of (drop l.i l.g) ≡ once_of l.g
