use Rattle.std.proofs.Common.{◌≡◌, take, map}
use Rattle.ot_link.specs.Holding.{given_to}
use Rattle.ot_link.proofs.exports.given_to.Given as goal

abbrev pub invariant-each : goal.invariant-each
invariant-each l = l.given.items ≡ map given_to (take l.export-index l.imports)
