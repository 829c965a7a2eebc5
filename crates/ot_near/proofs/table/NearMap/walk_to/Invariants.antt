use Rattle.std.proofs.Common.{◌≡◌, ℕ, ◌<◌, Some, false, slice_get}
use Rattle.indexmap.specs.IndexMap.{keys}
use Rattle.ot_near.proofs.table.NearMap.walk_to.Given as goal

-- no node before the index is this one
abbrev pub invariant-loop-index : goal.invariant-loop-index
invariant-loop-index g l = (k : ℕ) → k < l.index → (x : _) → slice_get (keys l.self) k ≡ Some x
    → g.K.PartialEq.eq l.node x ≡ false
