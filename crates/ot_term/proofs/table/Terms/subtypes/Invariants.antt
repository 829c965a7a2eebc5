use Rattle.std.proofs.Common.{length}
use Rattle.ot_type.specs.TypeTable.{type_at}
use Rattle.ot_type.specs.Subtypes.{IsSubtype}
use Rattle.ot_type.proofs.SubtypeLemmas.{above}
use Rattle.ot_term.specs.Walk.{IsInsideSome}
use Rattle.ot_term.proofs.Walking.{IsSearch}
use Rattle.ot_term.proofs.table.Terms.subtypes.Given as goal

abbrev pub invariant-loop-next : goal.invariant-loop-next
invariant-loop-next l = IsSearch (type_at l.self.types) IsSubtype (length l.self.types)
    (IsInsideSome (type_at l.self.types) IsSubtype l.initial.pending.keys) l.found.items l.pending.keys

-- each number that is taken is the greatest, and those that come in are lower
abbrev pub decreases-loop-next : goal.decreases-loop-next
decreases-loop-next l = above l.pending.keys
