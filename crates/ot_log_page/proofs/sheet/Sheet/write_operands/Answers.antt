use Rattle.std.proofs.Common.{arith}
use Rattle.ot_log_page.proofs.Showing.{leads-step, leads-end, operand-next, operand-end}
use Rattle.ot_log_page.proofs.sheet.Sheet.write_operands.Goals as goal

pub loop-operand-preserved : goal.loop-operand-preserved
loop-operand-preserved c =
    leads-step c.args.nodes.now _ _ _ _ _ _ _ c.loop-operand.invariant c.in_ok-write_operand.ensures.moves
    (λ y. operand-next c.args.nodes.now c.args.operands.now c.loop-operand.operand-index c.operand-item.result y
    (omega arith)
    c.operand-item.is)

pub returns : goal.returns
returns c = record {
  moves = leads-end c.args.nodes.now _ _ _ _ c.loop-operand.invariant
      (λ y. operand-end c.args.nodes.now c.args.operands.now c.loop-operand.operand-index y (omega arith));
}
