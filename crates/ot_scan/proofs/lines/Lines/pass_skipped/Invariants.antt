use Rattle.std.proofs.Common.{◌-◌}
use Rattle.ot_io.specs.Keeping.{KeepsSource}
use Rattle.ot_scan.specs.Reading.{KeepsLines, GoesOn}
use Rattle.ot_scan.proofs.lines.Lines.pass_skipped.Given as goal

abbrev pub invariant-lines : goal.invariant-lines
invariant-lines g l = record {
  same_lines : KeepsLines l.fn.self l.self (g.S.Source.left l.fn.source) (g.S.Source.left l.source);
  goes_on : GoesOn l.fn.self l.self;
  kept : KeepsSource g.S.Source.folder g.S.Source.faults g.S.Source.misses g.S.Source.at l.fn.source l.source;
}

abbrev pub decreases-lines : goal.decreases-lines
decreases-lines g l = l.self.max - l.self.before
