use Rattle.ot_lists.specs.SequenceTable.{sequence_at}
use Rattle.ot_lists.specs.Parts.{steps}
use Rattle.ot_lists.proofs.PieceLemmas.{IsCutting}
use Rattle.ot_lists.proofs.sequence.Sequences.pieces.Given as goal

abbrev pub invariant-loop-part : goal.invariant-loop-part
invariant-loop-part l =
    IsCutting l.self (sequence_at l.self l.f) (sequence_at l.self l.fn.x) l.pieces.items l.parts.items

abbrev pub decreases-loop-part : goal.decreases-loop-part
decreases-loop-part l = steps l.self l.parts.items
