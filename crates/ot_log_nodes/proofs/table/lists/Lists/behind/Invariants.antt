use Rattle.std.proofs.Common.{ℕ, length}
use Rattle.ot_log_nodes.specs.Lists.{list_at, types_of, HasList, IsSplit}
use Rattle.ot_log_nodes.proofs.table.lists.Lists.behind.Given as goal

abbrev pub invariant-loop-link : goal.invariant-loop-link
invariant-loop-link l = record {
  has : HasList l.self l.list;
  split : (t b : ℕ) → IsSplit l.self (types_of l.self l.list) l.place t b
      → IsSplit l.self (types_of l.self l.fn.binders) l.fn.place t b;
}

abbrev pub decreases-loop-link : goal.decreases-loop-link
decreases-loop-link l = length (list_at l.self l.list)
