use Rattle.std.specs.Prelude.{◌≡◌, length, map}
use Rattle.std.specs.List.{All}
use Rattle.ot_machine.specs.Places.{as_each}
use Rattle.ot_machine.specs.Meaning.{length_bound, list_at, lists_of, IsListIn}
use Rattle.ot_machine.proofs.Elements.{joined}
use Rattle.ot_machine.proofs.session.Session.each_of.Given as goal

abbrev pub invariant-cells : goal.invariant-cells
invariant-cells g l =
    let e = g.E.Element in
    record {
      inside : IsListIn (length l.machine.cells.items) l.rest;
      numbers : All (e.is_inside l.self.kernel) l.elements.items;
      so_far : joined e.as_one (map (e.value_at l.self.kernel) l.elements.items)
          (as_each e.as_one (list_at (lists_of l.self l.machine) l.rest))
          ≡ as_each e.as_one (list_at (lists_of l.self l.machine) l.fn.list);
    }

abbrev pub decreases-cells : goal.decreases-cells
decreases-cells g l = length_bound l.rest
