use Rattle.std.proofs.Common.{◌≡◌, map, take}
use Rattle.ot_logic.specs.PlainTrees.{type_of_tree}
use Rattle.ot_parse.proofs.measured.+copy_type.Given as goal

abbrev pub invariant-loop-arg : goal.invariant-loop-arg
invariant-loop-arg l = map type_of_tree l.copies.items ≡ take l.arg-index (map type_of_tree l.arg-items)
