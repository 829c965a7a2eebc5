use Rattle.std.proofs.Common.{map}
use Rattle.ot_lists.specs.SequenceTable.{sequence_at}
use Rattle.ot_lists.specs.Lists.{variable_at}
use Rattle.ot_lists.specs.Parts.{steps}
use Rattle.ot_lists.proofs.PartLemmas.{AreTaken}
use Rattle.ot_lists.proofs.sequence.Sequences.members.Given as goal

abbrev pub invariant-loop-part : goal.invariant-loop-part
invariant-loop-part l =
    AreTaken l.self (map (variable_at l.self.keys) (sequence_at l.self l.fn.id)) l.parts.items l.members.items

abbrev pub decreases-loop-part : goal.decreases-loop-part
decreases-loop-part l = steps l.self l.parts.items
