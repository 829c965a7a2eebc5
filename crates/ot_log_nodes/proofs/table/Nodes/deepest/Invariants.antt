use Rattle.std.proofs.Common.{◌≡◌, drop, max}
use Rattle.ot_logic.specs.Hol.{depth_all}
use Rattle.ot_logic.specs.Naming.{names}
use Rattle.ot_log_nodes.specs.Items.{types_at}
use Rattle.ot_log_nodes.proofs.table.Nodes.deepest.Given as goal

-- the depths so far and those of the types that are left are those of all
abbrev pub invariant-loop-id : goal.invariant-loop-id
invariant-loop-id l = max l.most (depth_all names (types_at l.self (drop l.id-index l.ids)))
    ≡ depth_all names (types_at l.self l.ids)
