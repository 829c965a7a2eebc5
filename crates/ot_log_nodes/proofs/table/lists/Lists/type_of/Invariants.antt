use Rattle.std.proofs.Common.{◌≡◌, length, slice_get}
use Rattle.ot_log_nodes.specs.Lists.{list_at, types_of, HasList}
use Rattle.ot_log_nodes.proofs.table.lists.Lists.type_of.Given as goal

abbrev pub invariant-loop-link : goal.invariant-loop-link
invariant-loop-link l = record {
  has : HasList l.self l.list;
  same : slice_get (types_of l.self l.fn.binders) l.fn.place ≡ slice_get (types_of l.self l.list) l.place;
}

abbrev pub decreases-loop-link : goal.decreases-loop-link
decreases-loop-link l = length (list_at l.self l.list)
