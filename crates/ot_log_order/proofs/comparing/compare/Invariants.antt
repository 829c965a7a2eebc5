use Rattle.std.specs.List.{All}
use Rattle.std.proofs.Common.{◌≡◌, ◌+◌}
use Rattle.ot_log_nodes.specs.Items.{term_at}
use Rattle.ot_text.specs.Texts.{tm_text, order}
use Rattle.ot_log_order.specs.Pieces.{HasPiece, text_of, work_of}
use Rattle.ot_log_order.proofs.comparing.compare.Given as goal

abbrev pub invariant-pieces : goal.invariant-pieces
invariant-pieces l = record {
  same : order (tm_text (term_at l.nodes l.fn.a)) (tm_text (term_at l.nodes l.fn.b))
      ≡ order (text_of l.nodes l.left.items) (text_of l.nodes l.right.items);
  left : All (HasPiece l.nodes) l.left.items;
  right : All (HasPiece l.nodes) l.right.items;
}

abbrev pub decreases-pieces : goal.decreases-pieces
decreases-pieces l = work_of l.nodes l.left.items + work_of l.nodes l.right.items
