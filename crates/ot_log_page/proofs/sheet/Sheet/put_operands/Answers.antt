use Rattle.std.proofs.Common.{arith}
use Rattle.ot_log_page.proofs.Showing.{leads-step, leads-end, tokens-next, tokens-end}
use Rattle.ot_log_page.proofs.sheet.Sheet.put_operands.Goals as goal

pub loop-operand-preserved : goal.loop-operand-preserved
loop-operand-preserved c =
    leads-step c.args.nodes.now _ _ _ _ _ _ _ c.loop-operand.invariant c.put_operand.ensures.moves
    (λ y. tokens-next c.args.nodes.now c.args.operands.now c.loop-operand.operand-index c.operand-item.result y
    (omega arith)
    c.operand-item.is)

pub returns : goal.returns
returns c = record {
  moves = leads-end c.args.nodes.now _ _ _ _ c.loop-operand.invariant
      (λ y. tokens-end c.args.nodes.now c.args.operands.now c.loop-operand.operand-index y (omega arith));
}
