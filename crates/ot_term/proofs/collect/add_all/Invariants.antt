use Rattle.std.proofs.Common.{◌≡◌, take, fold}
use Rattle.std.specs.BTreeSet.{insert_key}
use Rattle.ot_term.proofs.collect.add_all.Given as goal

abbrev pub invariant-loop-item : goal.invariant-loop-item
invariant-loop-item g l = l.set.keys ≡ fold (insert_key g.T.Ord.cmp) l.initial.set.keys (take l.item-index l.items)
