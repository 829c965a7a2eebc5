use Rattle.std.proofs.Common.{◌≡◌, ◌≤◌, ◌-◌, length, map}
use Rattle.ot_theory.specs.Lines.{lines_of, lines_at}
use Rattle.ot_parse.specs.Plain.{sequent_of}
use Rattle.ot_read.specs.Lines.{lines_read}
use Rattle.ot_read.proofs.Joining.{behind}
use Rattle.ot_read.proofs.lines.read_lines.Given as goal

abbrev pub invariant-lines : goal.invariant-lines
invariant-lines l = record {
  place : l.at ≤ length l.text;
  numbered : l.number ≤ l.at;
  so_far : lines_read l.notation (lines_of l.text) ≡ behind (map sequent_of l.read.items)
      (lines_read l.notation (lines_at l.text l.at l.number));
}

abbrev pub decreases-lines : goal.decreases-lines
decreases-lines l = length l.text - l.at
