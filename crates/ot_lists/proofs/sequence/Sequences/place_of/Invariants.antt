use Rattle.ot_lists.specs.SequenceTable.{sequence_at}
use Rattle.ot_lists.specs.Parts.{steps, ArePartsOf, AreLeft}
use Rattle.ot_lists.proofs.sequence.Sequences.place_of.Given as goal

abbrev pub invariant-loop-part : goal.invariant-loop-part
invariant-loop-part l =
    AreLeft l.self l.x (sequence_at l.self l.fn.id) l.parts.items l.end × ArePartsOf l.self l.parts.items

abbrev pub decreases-loop-part : goal.decreases-loop-part
decreases-loop-part l = steps l.self l.parts.items
