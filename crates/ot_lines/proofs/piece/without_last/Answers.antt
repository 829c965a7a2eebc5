use Rattle.std.proofs.Common.{arith}
use Rattle.ot_lines.proofs.Trimming.{cut_last, kept_last}
use Rattle.ot_lines.proofs.piece.without_last.Goals as goal
use Rattle.ot_lines.proofs.piece.without_last.Goals.{else-len-gt0-via-then-len-gt0+else-piece-len}
use Rattle.ot_lines.proofs.piece.without_last.Goals.{else-len-gt0-via-else-len-gt0}

pub returns-then-piece-len-clause-text : goal.returns-then-piece-len-clause-text
returns-then-piece-len-clause-text c = cut_last _ _ c.if-len-gt0.true c.if-piece-len.true

pub returns-else-len-gt0-clause-text : goal.returns-else-len-gt0-clause-text
returns-else-len-gt0-clause-text c =
    kept_last _ _ (elim c.else-len-gt0.branch [
      | else-len-gt0-via-then-len-gt0+else-piece-len w ↦ λ some. w.if-piece-len.false
      | else-len-gt0-via-else-len-gt0 w ↦ λ some. absurd (omega (arith, some, w.if-len-gt0.false))
    ])
