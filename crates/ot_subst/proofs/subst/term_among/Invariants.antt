use Rattle.std.proofs.Common.{◌≡◌, drop}
use Rattle.std.specs.Map.{lookup}
use Rattle.ot_subst.specs.Substitution.{same_key}
use Rattle.ot_subst.proofs.subst.term_among.Given as goal

abbrev pub invariant-each : goal.invariant-each
invariant-each l = lookup (same_key l.v) l.pairs ≡ lookup (same_key l.v) (drop l.pair-index l.pairs)
