use Rattle.std.proofs.Common.{◌≡◌, ◌≤◌, ◌-◌, length}
use Rattle.ot_lines.specs.Pieces.{pieces}
use Rattle.ot_theory.specs.Lines.{lines_at, lines_of, line_count}
use Rattle.ot_theory.specs.Theory.{read_lines, no_lines}
use Rattle.ot_theory.specs.Reading.{reading_state, IsReading}
use Rattle.ot_theory.proofs.theory.read.Given as goal

abbrev pub invariant-lines : goal.invariant-lines
invariant-lines l = record {
  in_range : l.at ≤ length l.text;
  numbered : l.number ≤ l.at;
  sets : IsReading l.reading l.current;
  count : line_count l.text l.at l.number ≡ length (pieces l.text);
  so_far : read_lines (lines_at l.text l.at l.number) (reading_state l.reading l.current)
      ≡ read_lines (lines_of l.text) no_lines;
}

abbrev pub decreases-lines : goal.decreases-lines
decreases-lines l = length l.text - l.at
