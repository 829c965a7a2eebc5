use Rattle.ot_lines.proofs.Pieces.{one_cut-to, one_cut-from}
use Rattle.ot_lines.proofs.piece.one_cut.Goals as goal

pub returns : goal.returns
returns c bytes ps = (one_cut-to bytes ps, one_cut-from bytes ps)
