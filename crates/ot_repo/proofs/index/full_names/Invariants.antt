use Rattle.std.proofs.Common.{◌≤◌, ◌-◌, length}
use Rattle.ot_theory.specs.Lines.{lines_of, lines_at}
use Rattle.ot_repo.specs.Answers.{ArePackages}
use Rattle.ot_repo.specs.Reading.{texts_of}
use Rattle.ot_repo.proofs.Picking.{Listed}
use Rattle.ot_repo.proofs.index.full_names.Given as goal

abbrev pub invariant-lines : goal.invariant-lines
invariant-lines l = record {
  place : l.at ≤ length l.text;
  numbered : l.number ≤ l.at;
  listed : Listed (lines_of l.text) (lines_at l.text l.at l.number) (texts_of l.names.items);
  full : ArePackages (texts_of l.names.items);
}

abbrev pub decreases-lines : goal.decreases-lines
decreases-lines l = length l.text - l.at
