use Rattle.ot_lines.proofs.Trimming.{above_passes}
use Rattle.ot_lines.proofs.piece.is_passed_over.Goals as goal

pub returns-in-len1-up : goal.returns-in-len1-up
returns-in-len1-up c = above_passes c.args.piece.now c.in-len1-up.len_at_least c.if-first-gt35.true
