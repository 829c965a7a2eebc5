use Rattle.std.specs.Prelude.{remove}
use Rattle.std.proofs.Common.{length}
use Rattle.ot_lists.specs.SequenceTable.{sequence_at}
use Rattle.ot_lists.proofs.Seams.{IsGap}
use Rattle.ot_lists.proofs.sequence.Sequences.gap.Given as goal

abbrev pub invariant-gap : goal.invariant-gap
invariant-gap l = IsGap l.self l.frames.items l.rest l.at (remove (sequence_at l.self l.fn.id) l.fn.place)

abbrev pub decreases-gap : goal.decreases-gap
decreases-gap l = length (sequence_at l.self l.rest)
