use Rattle.std.proofs.Common.{map, drop}
use Rattle.ot_log_nodes.specs.Items.{term_at}
use Rattle.ot_log_order.proofs.Placing.{sorted-ascends}
use Rattle.ot_log_order.proofs.sorting.sorted_by_text.Goals as goal

pub insert-requires-clause-ascending : goal.insert-requires-clause-ascending
insert-requires-clause-ascending c =
    let ts = c.args.nodes.now in
    sorted-ascends ts c.loop-i.sorted.items (map (term_at ts) (drop c.loop-i.i c.args.terms.now))
    c.loop-i.invariant.sorted
