use Rattle.std.proofs.Common.{◌≡◌, take, fold}
use Rattle.indexmap.specs.IndexSet.{insert_key}
use Rattle.ot_log_rules.proofs.sets.add_all.Given as goal

abbrev pub invariant-loop-item : goal.invariant-loop-item
invariant-loop-item g l = l.set.keys ≡ fold (insert_key g.T.PartialEq.eq) l.initial.set.keys
    (take l.item-index l.items)
