use Rattle.std.proofs.Common.{◌≡◌, ◌≤◌, drop, max}
use Rattle.ot_logic.specs.Hol.{depth_all, depth_limit}
use Rattle.ot_logic.specs.Naming.{numbers}
use Rattle.ot_type.specs.TypeTable.{types_at}
use Rattle.ot_type.proofs.table.Types.deepest.Given as goal

-- the depths so far and those of the types that are left are those of all
abbrev pub invariant-loop-id : goal.invariant-loop-id
invariant-loop-id l =
    (max l.most (depth_all numbers (types_at l.self (drop l.id-index l.ids)))
    ≡ depth_all numbers (types_at l.self l.ids)) × (l.most ≤ depth_limit)
