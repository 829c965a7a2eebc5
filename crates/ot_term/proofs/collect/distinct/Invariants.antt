use Rattle.std.proofs.Common.{◌≡◌, [], take, fold}
use Rattle.indexmap.specs.IndexSet.{insert_key}
use Rattle.ot_term.proofs.collect.distinct.Given as goal

abbrev pub invariant-loop-item : goal.invariant-loop-item
invariant-loop-item g l = l.seen.keys ≡ fold (insert_key g.T.PartialEq.eq) [] (take l.item-index l.items)
