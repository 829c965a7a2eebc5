use Rattle.std.proofs.Common.{◌≤◌, ◌-◌, length}
use Rattle.ot_lines.specs.Pieces.{IsOpenTo}
use Rattle.ot_lines.proofs.piece.piece_len.Given as goal

abbrev pub invariant-runs : goal.invariant-runs
invariant-runs l = record { within : l.at ≤ length l.bytes; open_to : IsOpenTo l.at l.bytes }

abbrev pub decreases-runs : goal.decreases-runs
decreases-runs l = length l.bytes - l.at
