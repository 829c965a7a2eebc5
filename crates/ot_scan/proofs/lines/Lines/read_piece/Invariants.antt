use Rattle.std.proofs.Common.{◌≤◌, ◌-◌, length}
use Rattle.ot_io.specs.Keeping.{KeepsSource}
use Rattle.ot_lines.specs.Pieces.{IsOpenTo}
use Rattle.ot_scan.specs.Reading.{Fills}
use Rattle.ot_scan.proofs.lines.Lines.read_piece.Given as goal

abbrev pub invariant-reads : goal.invariant-reads
invariant-reads g l = record {
  read : Fills l.fn.self l.self (g.S.Source.left l.fn.source) (g.S.Source.left l.source);
  within : l.searched ≤ length l.self.held;
  open_to : IsOpenTo l.searched l.self.held;
  kept : KeepsSource g.S.Source.folder g.S.Source.faults g.S.Source.misses g.S.Source.at l.fn.source l.source;
}

abbrev pub decreases-reads : goal.decreases-reads
decreases-reads g l = 65536 - length l.self.held
