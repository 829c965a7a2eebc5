use Rattle.std.proofs.Common.{◌<◌, length}
use Rattle.ot_lists.specs.SequenceTable.{sequence_at}
use Rattle.ot_lists.specs.Pieces.{IsPartAt}
use Rattle.ot_lists.proofs.sequence.Sequences.cut_at.Given as goal

abbrev pub invariant-cut : goal.invariant-cut
invariant-cut l =
    (l.rest < length l.self.lists) × IsPartAt (sequence_at l.self l.fn.id) (sequence_at l.self l.rest) l.begin

abbrev pub decreases-cut : goal.decreases-cut
decreases-cut l = length (sequence_at l.self l.rest)
