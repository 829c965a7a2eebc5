use Rattle.std.proofs.Common.{drop, ◌+◌, ◌*◌}
use Rattle.ot_log_page.proofs.Showing.{Leads, types_written}
use Rattle.ot_log_page.proofs.sheet.Sheet.+write_type.Given as goal

abbrev pub decreases-write_type : goal.decreases-write_type
decreases-write_type l = l.id * 3 + 2

abbrev pub decreases-write_new_type : goal.decreases-write_new_type
decreases-write_new_type l = l.id * 3 + 1

abbrev pub decreases-write_types : goal.decreases-write_types
decreases-write_types l = l.bound * 3

abbrev pub invariant-write_types-loop-id : goal.invariant-write_types-loop-id
invariant-write_types-loop-id l = Leads l.nodes l.fn.self l.self (types_written l.nodes (drop l.id-index l.ids))
    (types_written l.nodes l.ids)
