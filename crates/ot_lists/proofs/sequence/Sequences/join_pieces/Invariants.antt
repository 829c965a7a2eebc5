use Rattle.std.proofs.Common.{take}
use Rattle.ot_lists.specs.SequenceTable.{sequence_at}
use Rattle.ot_lists.proofs.JoinLemmas.{IsJoined}
use Rattle.ot_lists.proofs.sequence.Sequences.join_pieces.Given as goal

abbrev pub invariant-loop-piece : goal.invariant-loop-piece
invariant-loop-piece l =
    IsJoined l.fn.self l.self l.fn.maps l.maps (sequence_at l.fn.self l.fn.none.list) (take l.piece-index l.pieces)
    l.joined.list l.joined.map
