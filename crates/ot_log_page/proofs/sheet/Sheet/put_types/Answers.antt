use Rattle.std.proofs.Common.{arith}
use Rattle.ot_log_page.proofs.Showing.{leads-step, leads-end, types-next, types-end}
use Rattle.ot_log_page.proofs.sheet.Sheet.put_types.Goals as goal

pub loop-id-preserved : goal.loop-id-preserved
loop-id-preserved c = leads-step c.args.nodes.now _ _ _ _ _ _ _ c.loop-id.invariant c.put_type.ensures.moves
    (λ y. types-next c.args.nodes.now c.args.ids.now c.loop-id.id-index c.id-item.result y (omega arith) c.id-item.is)

pub returns : goal.returns
returns c = record {
  moves = leads-end c.args.nodes.now _ _ _ _ c.loop-id.invariant
      (λ y. types-end c.args.nodes.now c.args.ids.now c.loop-id.id-index y (omega arith));
}
