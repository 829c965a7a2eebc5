use Rattle.std.proofs.Common.{◌+◌, ◌*◌, take}
use Rattle.ot_log_nodes.specs.Items.{types_at}
use Rattle.ot_log_rules.specs.Parts.{marks_all, Gathers}
use Rattle.ot_log_rules.proofs.parts.Parts.+types.Given as goal

abbrev pub decreases-add_type : goal.decreases-add_type
decreases-add_type l = 3 * l.id + 2

abbrev pub decreases-add_type_node : goal.decreases-add_type_node
decreases-add_type_node l = 3 * l.id + 1

abbrev pub decreases-add_types : goal.decreases-add_types
decreases-add_types l = 3 * l.above

abbrev pub invariant-add_types-loop-id : goal.invariant-add_types-loop-id
invariant-add_types-loop-id l = Gathers l.nodes (marks_all (types_at l.nodes (take l.id-index l.ids))) l.fn.self
    l.self
