use Rattle.std.proofs.Common.{drop}
use Rattle.ot_log_page.proofs.Showing.{Leads, types_tokens}
use Rattle.ot_log_page.proofs.sheet.Sheet.put_types.Given as goal

abbrev pub invariant-loop-id : goal.invariant-loop-id
invariant-loop-id l = Leads l.nodes l.fn.self l.self (types_tokens l.nodes (drop l.id-index l.ids))
    (types_tokens l.nodes l.ids)
