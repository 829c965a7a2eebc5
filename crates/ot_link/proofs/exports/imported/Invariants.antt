use Rattle.std.proofs.Common.{◌≡◌, take}
use Rattle.std.specs.Prelude.{flat_map}
use Rattle.ot_link.specs.Holding.{held_at}
use Rattle.ot_link.proofs.exports.imported.Given as goal

abbrev pub invariant-each : goal.invariant-each
invariant-each l = l.exports.items ≡ flat_map (held_at l.done) (take l.place-index l.places)
