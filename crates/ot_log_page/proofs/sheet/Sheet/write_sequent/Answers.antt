use Rattle.ot_log_page.specs.Sheets.{entry_at}
use Rattle.ot_log_page.proofs.Adding.{adds-one}
use Rattle.ot_log_page.proofs.sheet.Sheet.write_sequent.Goals as goal

pub returns : goal.returns
returns c = record {
  adds = adds-one c.args.nodes.now _ _ _ (entry_at c.args.nodes.now c.args.word c.args.operands.now)
      c.in_ok-write.ensures.moves (c.in_ok-count_sequent.ensures.moves c.args.nodes.now);
}
