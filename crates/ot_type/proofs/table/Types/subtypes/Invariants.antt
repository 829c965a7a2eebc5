use Rattle.ot_type.specs.TypeTable.{type_at}
use Rattle.ot_type.proofs.SubtypeLemmas.{IsSearch, above}
use Rattle.ot_type.proofs.table.Types.subtypes.Given as goal

abbrev pub invariant-loop-next : goal.invariant-loop-next
invariant-loop-next l = IsSearch l.self (type_at l.self l.fn.id) l.found.items l.pending.keys

-- each number that is taken is the greatest, and those that come in are lower
abbrev pub decreases-loop-next : goal.decreases-loop-next
decreases-loop-next l = above l.pending.keys
