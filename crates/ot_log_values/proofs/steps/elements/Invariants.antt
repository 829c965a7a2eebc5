use Rattle.std.proofs.Common.{◌<◌, ◌≤◌, length}
use Rattle.std.specs.List.{All}
use Rattle.ot_machine.specs.Places.{as_list}
use Rattle.ot_machine.specs.Meaning.{origin_of}
use Rattle.ot_log_values.specs.Steps.{Reads}
use Rattle.ot_log_values.proofs.Listing.{Leaves}
use Rattle.ot_log_values.proofs.steps.elements.Given as goal

abbrev pub invariant-cells : goal.invariant-cells
invariant-cells l = record {
  inside : l.rest < length l.session.trace;
  near : l.rest ≤ l.fn.list;
  below : All (λ i. i < l.fn.list) l.found.items;
  leaves : Leaves l.session l.fn.list l.found.items l.rest;
  listed : Reads as_list (origin_of l.session l.rest);
}

abbrev pub decreases-cells : goal.decreases-cells
decreases-cells l = l.rest
