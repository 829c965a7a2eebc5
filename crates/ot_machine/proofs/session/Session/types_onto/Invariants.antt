use Rattle.std.proofs.Common.{◌≡◌, [], length}
use Rattle.ot_kernel.specs.Pairs.{type_pairs, AreTypePairs}
use Rattle.ot_machine.specs.Substitutions.{types_onto}
use Rattle.ot_machine.specs.Meaning.{length_bound, list_at, lists_of, IsListIn}
use Rattle.ot_machine.proofs.session.Session.types_onto.Given as goal

abbrev pub invariant-pairs : goal.invariant-pairs
invariant-pairs l = record {
  inside : IsListIn (length l.machine.cells.items) l.rest;
  fits : AreTypePairs l.self.kernel l.types;
  so_far : types_onto (type_pairs l.self.kernel l.types) (list_at (lists_of l.self l.machine) l.rest)
      ≡ types_onto [] (list_at (lists_of l.self l.machine) l.fn.list);
}

abbrev pub decreases-pairs : goal.decreases-pairs
decreases-pairs l = length_bound l.rest
