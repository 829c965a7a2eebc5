use Rattle.std.proofs.Common.{drop}
use Rattle.ot_log_page.proofs.Showing.{Leads, tokens_at}
use Rattle.ot_log_page.proofs.sheet.Sheet.put_operands.Given as goal

abbrev pub invariant-loop-operand : goal.invariant-loop-operand
invariant-loop-operand l = Leads l.nodes l.fn.self l.self (tokens_at l.nodes (drop l.operand-index l.operands))
    (tokens_at l.nodes l.operands)
