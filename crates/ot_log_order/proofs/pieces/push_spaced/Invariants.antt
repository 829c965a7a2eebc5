use Rattle.std.specs.List.{All}
use Rattle.std.proofs.Common.{List, drop}
use Rattle.ot_log_nodes.specs.Items.{Item, HasType, types_at}
use Rattle.ot_text.specs.Texts.{spaced_text}
use Rattle.ot_log_order.specs.Pieces.{Puts}
use Rattle.ot_log_order.proofs.pieces.push_spaced.Given as goal

abbrev pub invariant-loop-i : goal.invariant-loop-i
invariant-loop-i l =
    (ts : List Item) → All (HasType ts) l.types
    → Puts ts (spaced_text (types_at ts (drop l.i l.types))) l.initial.pieces.items l.pieces.items
