use Rattle.ot_log_page.proofs.Showing.{moves-then, moves-as, type-operator-tokens}
use Rattle.ot_log_page.proofs.sheet.Sheet.put_type_op.Goals as goal

pub returns : goal.returns
returns c = record {
  moves = moves-as c.args.nodes.now _ _ _ _ (λ x. type-operator-tokens c.args.nodes.now c.args.name c.args.args.now x)
      (moves-then c.args.nodes.now _ _ _ _ _ (c.put_word.ensures.moves c.args.nodes.now)
      (moves-then c.args.nodes.now _ _ _ _ _ c.put_operand.ensures.moves
      (moves-then c.args.nodes.now _ _ _ _ _ (c.put_number.ensures.moves c.args.nodes.now)
      c.put_types.ensures.moves)));
}
