use Rattle.std.proofs.Common.{◌≡◌, take}
use Rattle.ot_log_rules.specs.Keeping.{ordered}
use Rattle.ot_log_rules.proofs.kept.ordered.Given as goal

abbrev pub invariant-loop-id : goal.invariant-loop-id
invariant-loop-id l = l.set.keys ≡ ordered (take l.id-index l.ids)
