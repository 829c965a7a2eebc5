use Rattle.std.proofs.Common.{◌≡◌, ◌≤◌, length, take}
use Rattle.ot_lines.specs.Pieces.{trim_back}
use Rattle.ot_lines.proofs.piece.trimmed_back.Given as goal

abbrev pub invariant-back : goal.invariant-back
invariant-back l =
    record { in_range : l.len ≤ length l.line; same : trim_back (take l.len l.line) ≡ trim_back l.line }

abbrev pub decreases-back : goal.decreases-back
decreases-back l = l.len
