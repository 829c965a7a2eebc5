use Rattle.ot_log_page.proofs.Showing.{moves-then}
use Rattle.ot_log_page.proofs.sheet.Sheet.write.Goals as goal

pub returns : goal.returns
returns c =
    record { moves = moves-then c.args.nodes.now _ _ _ _ _ c.in_ok-write_operands.ensures.moves c.put.ensures.moves }
