use Rattle.std.proofs.Common.{◌≡◌, drop, map, length}
use Rattle.ot_logic.specs.Naming.{names}
use Rattle.ot_kernel.specs.State.{types_at}
use Rattle.ot_match.specs.Walk.{walk_types}
use Rattle.ot_logic.specs.PlainTrees.{type_of_tree, tys_of}
use Rattle.ot_match.specs.Found.{types_of, AreTypesIn}
use Rattle.ot_match.proofs.types.+types.Given as goal

abbrev pub invariant-match_types-loop-i : goal.invariant-match_types-loop-i
invariant-match_types-loop-i l = record {
  size : length l.patterns.items ≡ length l.ids;
  inside : AreTypesIn l.kernel l.types.items;
  rest : walk_types names (tys_of (map type_of_tree l.patterns.items)) (types_at l.kernel l.ids)
      (types_of l.kernel l.initial.types.items)
      ≡ walk_types names (tys_of (map type_of_tree (drop l.i l.patterns.items))) (types_at l.kernel (drop l.i l.ids))
      (types_of l.kernel l.types.items);
}
