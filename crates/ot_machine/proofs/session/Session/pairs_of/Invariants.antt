use Rattle.std.proofs.Common.{◌≡◌, ◌<◌, length, map}
use Rattle.std.specs.List.{All}
use Rattle.ot_kernel.specs.State.{name_at, variable_at}
use Rattle.ot_machine.specs.Places.{as_each}
use Rattle.ot_machine.specs.DefinitionLists.{definition_pair}
use Rattle.ot_machine.specs.Meaning.{length_bound, list_at, lists_of, IsListIn}
use Rattle.ot_machine.proofs.Elements.{joined}
use Rattle.ot_machine.proofs.session.Session.pairs_of.Given as goal

abbrev pub invariant-pairs : goal.invariant-pairs
invariant-pairs l = record {
  inside : IsListIn (length l.machine.cells.items) l.rest;
  names : All (λ p. p.0 < length l.self.kernel.names) l.pairs.items;
  variables : All (λ p. (p.1.name < length l.self.kernel.names) × (p.1.ty < length l.self.kernel.types))
      l.pairs.items;
  so_far : joined definition_pair
      (map (λ p. (name_at l.self.kernel p.0, variable_at l.self.kernel p.1)) l.pairs.items)
      (as_each definition_pair (list_at (lists_of l.self l.machine) l.rest))
      ≡ as_each definition_pair (list_at (lists_of l.self l.machine) l.fn.list);
}

abbrev pub decreases-pairs : goal.decreases-pairs
decreases-pairs l = length_bound l.rest
