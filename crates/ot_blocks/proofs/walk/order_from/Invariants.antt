use Rattle.std.proofs.Common.{◌∷◌, ◌+◌, reverse}
use Rattle.ot_blocks.specs.Order.{order_of}
use Rattle.ot_blocks.specs.Answers.{lists_of}
use Rattle.ot_blocks.proofs.SoFar.{SoFar, new_work, path_work}
use Rattle.ot_blocks.proofs.walk.order_from.Given as goal

abbrev pub invariant-walk : goal.invariant-walk
invariant-walk l =
    SoFar (lists_of l.imports) (order_of (lists_of l.imports) l.main) l.marks.items
    (record { block = l.block; next = l.next } ∷ reverse l.path.items) l.done.items

abbrev pub decreases-walk : goal.decreases-walk
decreases-walk l =
    new_work (lists_of l.imports) l.marks.items + path_work (lists_of l.imports)
    (record { block = l.block; next = l.next } ∷ reverse l.path.items)
