use Rattle.std.proofs.Common.{◌≡◌, ◌<◌, ◌+◌, ◌*◌, length, map}
use Rattle.std.specs.List.{All}
use Rattle.ot_kernel.specs.State.{type_at, types_at}
use Rattle.ot_machine.specs.Version5.{canon_ty, canon_tys}
use Rattle.ot_machine.specs.RenamedLists.{list_onto}
use Rattle.ot_machine.specs.Canonical.{AreTypes}
use Rattle.ot_machine.specs.Meaning.{origin_of, Traces}
use Rattle.ot_machine.proofs.session.Session.+type_origin.Given as goal

abbrev pub decreases-type_origin : goal.decreases-type_origin
decreases-type_origin l = 3 * l.id + 2

abbrev pub decreases-type_node_origin : goal.decreases-type_node_origin
decreases-type_node_origin l = 3 * l.id + 1

abbrev pub decreases-types_origin : goal.decreases-types_origin
decreases-types_origin l = 3 * l.bound

abbrev pub invariant-types_origin-types : goal.invariant-types_origin-types
invariant-types_origin-types l = record {
  kept : Traces l.fn.self l.self;
  known : AreTypes l.self l.known.entries;
  inside : l.list < length l.self.trace;
  below : All (λ i. i < l.fn.bound) l.rest;
  so_far : list_onto (map (λ i. canon_ty (type_at l.fn.self.kernel i)) l.rest) (origin_of l.self l.list)
      ≡ canon_tys (types_at l.fn.self.kernel l.ids);
}

abbrev pub decreases-types_origin-types : goal.decreases-types_origin-types
decreases-types_origin-types l = length l.rest
