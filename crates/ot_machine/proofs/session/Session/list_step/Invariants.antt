use Rattle.std.proofs.Common.{◌≡◌, ◌<◌, length, map}
use Rattle.std.specs.List.{All}
use Rattle.ot_trace.specs.Trace.{origin_at}
use Rattle.ot_machine.specs.Meaning.{Traces}
use Rattle.ot_machine.specs.RenamedLists.{list_onto}
use Rattle.ot_machine.proofs.session.Session.list_step.Given as goal

abbrev pub invariant-elements : goal.invariant-elements
invariant-elements l = record {
  kept : Traces l.fn.self l.self;
  list_inside : l.list < length l.self.trace;
  inside : All (λ i. i < length l.fn.self.trace) l.rest;
  so_far : list_onto (map (origin_at l.fn.self.trace) l.rest) (origin_at l.self.trace l.list)
      ≡ list_onto (map (origin_at l.fn.self.trace) l.found) (origin_at l.fn.self.trace l.fn.end);
}

abbrev pub decreases-elements : goal.decreases-elements
decreases-elements l = length l.rest
