use Rattle.std.proofs.Common.{length}
use Rattle.ot_lists.specs.SequenceTable.{sequence_at}
use Rattle.ot_lists.specs.Frames.{nested}
use Rattle.ot_lists.proofs.FrameLemmas.{IsFilling}
use Rattle.ot_lists.proofs.sequence.Sequences.fill.Given as goal

abbrev pub invariant-loop-frame : goal.invariant-loop-frame
invariant-loop-frame l =
    IsFilling l.initial.self l.self l.frames.items l.list
    (nested l.initial.self l.initial.frames.items (sequence_at l.initial.self l.initial.list))

abbrev pub decreases-loop-frame : goal.decreases-loop-frame
decreases-loop-frame l = length l.frames.items
