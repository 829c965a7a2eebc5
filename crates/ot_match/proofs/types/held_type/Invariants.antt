use Rattle.std.proofs.Common.{◌≡◌, drop}
use Rattle.std.specs.Map.{lookup}
use Rattle.ot_logic.specs.Names.{same_name}
use Rattle.ot_match.proofs.types.held_type.Given as goal

abbrev pub invariant-each : goal.invariant-each
invariant-each l = lookup (same_name l.name) l.types ≡ lookup (same_name l.name) (drop l.pair-index l.types)
