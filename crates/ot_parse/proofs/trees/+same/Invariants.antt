use Rattle.std.proofs.Common.{◌≡◌, map, drop}
use Rattle.ot_logic.specs.Hol.{same_tys}
use Rattle.ot_logic.specs.Naming.{names}
use Rattle.ot_logic.specs.PlainTrees.{type_of_tree, tys_of}
use Rattle.ot_parse.proofs.trees.+same.Given as goal

abbrev pub invariant-same_types-loop-i : goal.invariant-same_types-loop-i
invariant-same_types-loop-i l =
    same_tys names (tys_of (map type_of_tree l.left.items)) (tys_of (map type_of_tree l.right.items)) ≡ same_tys names
    (tys_of (map type_of_tree (drop l.i l.left.items))) (tys_of (map type_of_tree (drop l.i l.right.items)))
