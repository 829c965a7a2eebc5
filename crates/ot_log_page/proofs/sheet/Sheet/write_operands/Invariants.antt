use Rattle.std.proofs.Common.{drop}
use Rattle.ot_log_page.proofs.Showing.{Leads, operands_written}
use Rattle.ot_log_page.proofs.sheet.Sheet.write_operands.Given as goal

abbrev pub invariant-loop-operand : goal.invariant-loop-operand
invariant-loop-operand l = Leads l.nodes l.fn.self l.self (operands_written l.nodes (drop l.operand-index l.operands))
    (operands_written l.nodes l.operands)
