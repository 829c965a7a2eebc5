use Rattle.std.proofs.Common.{◌≤◌, ◌-◌, length}
use Rattle.ot_lines.specs.Pieces.{IsOpenTo}
use Rattle.ot_lines.proofs.piece.piece_len_by_one.Given as goal

abbrev pub invariant-loop-at : goal.invariant-loop-at
invariant-loop-at l = record { within : l.at ≤ length l.bytes; open_to : IsOpenTo l.at l.bytes }

abbrev pub decreases-loop-at : goal.decreases-loop-at
decreases-loop-at l = length l.bytes - l.at
