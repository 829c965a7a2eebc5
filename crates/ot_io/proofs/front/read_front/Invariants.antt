use Rattle.std.proofs.Common.{◌≡◌, ◌≤◌, ◌+◌, ◌-◌, length}
use Rattle.std.specs.Io.KnownBytes.{Consumes}
use Rattle.ot_io.proofs.front.read_front.Given as goal

abbrev pub invariant-reading : goal.invariant-reading
invariant-reading g l = record {
  in_range : length l.bytes.items ≤ l.max_bytes + 1;
  size : length l.buffer ≡ 4096;
  later : g.S.Source.faults l.fn.source ≤ g.S.Source.faults l.source;
  folder : g.S.Source.folder l.source ≡ g.S.Source.folder l.fn.source;
  misses : g.S.Source.misses l.source ≡ g.S.Source.misses l.fn.source;
  at : g.S.Source.at l.source ≡ g.S.Source.at l.fn.source;
  taken : Consumes (g.S.Source.left l.fn.source) (g.S.Source.left l.source) l.bytes.items;
}

abbrev pub decreases-reading : goal.decreases-reading
decreases-reading g l = l.max_bytes + 1 - length l.bytes.items
