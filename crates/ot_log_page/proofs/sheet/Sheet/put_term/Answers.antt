use Rattle.ot_log_page.proofs.Showing.{term-token}
use Rattle.ot_log_page.proofs.sheet.Sheet.put_term.Goals as goal

pub returns : goal.returns
returns c = record {
  moves = term-token c.args.nodes.now _ _ c.args.id c.term_number-number.result c.primitives.ensures.once
      c.requires.term c.term_number-number.ensures (c.put_number.ensures.moves c.args.nodes.now);
}
