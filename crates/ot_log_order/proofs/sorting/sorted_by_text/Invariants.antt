use Rattle.std.specs.List.{All}
use Rattle.std.proofs.Common.{◌≡◌, map, drop}
use Rattle.ot_log_nodes.specs.Items.{HasTerm, term_at}
use Rattle.ot_log_records.specs.Expansions.{by_text}
use Rattle.ot_log_order.proofs.sorting.sorted_by_text.Given as goal

abbrev pub invariant-loop-i : goal.invariant-loop-i
invariant-loop-i l = record {
  sorted : map (term_at l.nodes) l.sorted.items ≡ by_text (map (term_at l.nodes) (drop l.i l.terms));
  has : All (HasTerm l.nodes) l.sorted.items;
}
