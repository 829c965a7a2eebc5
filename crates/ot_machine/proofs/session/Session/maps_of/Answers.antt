use Rattle.std.proofs.Common.{length}
use Rattle.ot_machine.proofs.session.Session.maps_of.Goals as goal

pub types_onto-requires-clause-inside : goal.types_onto-requires-clause-inside
types_onto-requires-clause-inside c = c.in_ok-types-2.ensures.inside (length c.args.machine.now.cells.items) c.in_ok-types.ensures.first

pub terms_onto-requires-clause-inside : goal.terms_onto-requires-clause-inside
terms_onto-requires-clause-inside c = c.in_ok-terms.ensures.inside (length c.args.machine.now.cells.items) c.in_ok-types.ensures.second
