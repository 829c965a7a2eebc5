use Rattle.std.proofs.Common.{take, ◌++◌}
use Rattle.ot_logic.specs.Lists.{IsSameSet}
use Rattle.ot_type.proofs.table.subtypes.add_all.Given as goal

abbrev pub invariant-loop-id : goal.invariant-loop-id
invariant-loop-id l = IsSameSet l.set.keys (l.initial.set.keys ++ take l.id-index l.ids)
