use Rattle.std.proofs.Common.{◌≡◌, ◌<◌, length, map}
use Rattle.std.specs.List.{All}
use Rattle.ot_trace.specs.Trace.{origin_at}
use Rattle.ot_machine.specs.RenamedLists.{list_onto}
use Rattle.ot_machine.proofs.session.Session.elements_of.Given as goal

abbrev pub invariant-elements : goal.invariant-elements
invariant-elements l = record {
  rest_inside : l.rest < length l.self.trace;
  inside : All (λ i. i < length l.self.trace) l.found.items;
  so_far : list_onto (map (origin_at l.self.trace) l.found.items) (origin_at l.self.trace l.rest)
      ≡ origin_at l.self.trace l.fn.list;
}

abbrev pub decreases-elements : goal.decreases-elements
decreases-elements l = l.rest
