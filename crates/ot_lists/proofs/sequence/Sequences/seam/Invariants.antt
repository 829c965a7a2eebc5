use Rattle.std.proofs.Common.{◌++◌, ◌+◌, length}
use Rattle.ot_lists.specs.SequenceTable.{sequence_at}
use Rattle.ot_lists.proofs.Seams.{IsSeam}
use Rattle.ot_lists.proofs.sequence.Sequences.seam.Given as goal

abbrev pub invariant-seam : goal.invariant-seam
invariant-seam l =
    IsSeam l.self l.frames.items l.left l.right (sequence_at l.self l.fn.before ++ sequence_at l.self l.fn.behind)

abbrev pub decreases-seam : goal.decreases-seam
decreases-seam l = length (sequence_at l.self l.left) + length (sequence_at l.self l.right)
