use Rattle.std.proofs.Common.{◌≡◌, [], length}
use Rattle.ot_kernel.specs.Pairs.{term_pairs, IsSubstIn}
use Rattle.ot_machine.specs.Substitutions.{terms_onto}
use Rattle.ot_machine.specs.Meaning.{length_bound, list_at, lists_of, IsListIn}
use Rattle.ot_machine.proofs.session.Session.terms_onto.Given as goal

abbrev pub invariant-pairs : goal.invariant-pairs
invariant-pairs l = record {
  inside : IsListIn (length l.machine.cells.items) l.rest;
  types_are : l.maps.types ≡ l.fn.types;
  fits : IsSubstIn l.self.kernel l.maps;
  so_far : terms_onto (term_pairs l.self.kernel l.maps) (list_at (lists_of l.self l.machine) l.rest)
      ≡ terms_onto [] (list_at (lists_of l.self l.machine) l.fn.list);
}

abbrev pub decreases-pairs : goal.decreases-pairs
decreases-pairs l = length_bound l.rest
