use Rattle.std.proofs.Common.{◌≡◌, ◌+◌, map, take}
use Rattle.ot_text.specs.Texts.{ascending}
use Rattle.ot_text.specs.Gathered.{texts_of, bytes_in}
use Rattle.ot_text.proofs.gather.gathered.Given as goal

abbrev pub invariant-loop-item : goal.invariant-loop-item
invariant-loop-item g l =
    (texts_of l.texts ≡ ascending (take l.item-index (map (g.T.Printable.text l.table) l.items)))
    × (l.room + bytes_in (ascending (take l.item-index (map (g.T.Printable.text l.table) l.items))) ≡ l.max)
