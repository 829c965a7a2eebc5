use Rattle.std.proofs.Common.{List, drop}
use Rattle.ot_log_nodes.specs.Items.{Item}
use Rattle.ot_log_order.proofs.Pushing.{Bytes}
use Rattle.ot_log_order.proofs.pieces.push_bytes.Given as goal

abbrev pub invariant-loop-i : goal.invariant-loop-i
invariant-loop-i l = (ts : List Item) → Bytes ts (drop l.i l.bytes) l.initial.pieces.items l.pieces.items
