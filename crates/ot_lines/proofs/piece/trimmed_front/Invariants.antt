use Rattle.std.proofs.Common.{◌≡◌, length}
use Rattle.ot_lines.specs.Pieces.{trim_front}
use Rattle.ot_lines.proofs.piece.trimmed_front.Given as goal

abbrev pub invariant-front : goal.invariant-front
invariant-front l = trim_front l.text ≡ trim_front l.line

abbrev pub decreases-front : goal.decreases-front
decreases-front l = length l.text
