use Rattle.ot_log_page.proofs.Showing.{type-token}
use Rattle.ot_log_page.proofs.sheet.Sheet.put_type.Goals as goal

pub returns : goal.returns
returns c = record {
  moves = type-token c.args.nodes.now _ _ c.args.id c.type_number-number.result c.primitives.ensures.once
      c.requires.ty c.type_number-number.ensures (c.put_number.ensures.moves c.args.nodes.now);
}
