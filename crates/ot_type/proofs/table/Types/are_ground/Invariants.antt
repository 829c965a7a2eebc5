use Rattle.std.proofs.Common.{◌≡◌, ◌&&◌, drop}
use Rattle.ot_type.specs.TypeTable.{are_ground, types_at}
use Rattle.ot_type.proofs.table.Types.are_ground.Given as goal

-- the answers so far and those of the types that are left are those of all
abbrev pub invariant-loop-id : goal.invariant-loop-id
invariant-loop-id l = (l.all && are_ground (types_at l.self (drop l.id-index l.ids)))
    ≡ are_ground (types_at l.self l.ids)
