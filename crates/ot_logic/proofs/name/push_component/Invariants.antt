use Rattle.std.proofs.Common.{◌≡◌, ◌++◌, take, map}
use Rattle.std.specs.List.{flat_map}
use Rattle.ot_logic.specs.Names.{item_of, item_text}
use Rattle.ot_logic.proofs.name.push_component.Given as goal

abbrev pub invariant-loop-byte : goal.invariant-loop-byte
invariant-loop-byte l =
    l.out.items ≡ l.fn.out.items ++ flat_map item_text (map item_of (take l.byte-index l.component))
