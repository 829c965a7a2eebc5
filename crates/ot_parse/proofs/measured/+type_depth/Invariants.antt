use Rattle.std.proofs.Common.{◌≡◌, map, take, min}
use Rattle.ot_logic.specs.Hol.{depth_all}
use Rattle.ot_logic.specs.Naming.{names}
use Rattle.ot_logic.specs.PlainTrees.{type_of_tree, tys_of}
use Rattle.ot_parse.proofs.measured.+type_depth.Given as goal

abbrev pub invariant-loop-arg : goal.invariant-loop-arg
invariant-loop-arg l = l.deepest ≡ min (depth_all names (tys_of (map type_of_tree (take l.arg-index l.arg-items))))
    l.limit
