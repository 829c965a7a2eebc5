use Rattle.std.specs.Prelude.{filter, not}
use Rattle.std.specs.List.{list_any}
use Rattle.std.proofs.Common.{◌≡◌, nat_eq, take}
use Rattle.ot_log_rules.proofs.statement.lacking_by_hash.Given as goal

abbrev pub invariant-loop-t : goal.invariant-loop-t
invariant-loop-t l = l.more.items ≡ filter (λ t. not (list_any (λ u. nat_eq u t) l.g)) (take l.t-index l.h)
