use Rattle.ot_log_nodes.proofs.NodeLemmas.{new-table}
use Rattle.ot_log_nodes.proofs.table.Nodes.new.Goals as goal

pub invariant_of-result : goal.invariant_of-result
invariant_of-result c =
    (new-table c.new-nodes.result c.insert.new.self c.insert-2.new.self c.insert-3.new.self _ _ _ _
    c.new-nodes.ensures.empty c.in_ok-of_text.ensures c.in_ok-insert.ensures.entries c.in_ok-of_text-2.ensures
    c.in_ok-insert-2.ensures.entries c.in_ok-of_text-3.ensures c.in_ok-insert-3.ensures.entries).0

pub returns : goal.returns
returns c =
    (new-table c.new-nodes.result c.insert.new.self c.insert-2.new.self c.insert-3.new.self _ _ _ _
    c.new-nodes.ensures.empty c.in_ok-of_text.ensures c.in_ok-insert.ensures.entries c.in_ok-of_text-2.ensures
    c.in_ok-insert-2.ensures.entries c.in_ok-of_text-3.ensures c.in_ok-insert-3.ensures.entries).1
