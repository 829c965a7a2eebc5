use Rattle.std.proofs.Common.{◌≡◌, drop}
use Rattle.std.specs.Map.{lookup}
use Rattle.ot_logic.specs.Naming.{names}
use Rattle.ot_logic.specs.Hol.{same_var}
use Rattle.ot_kernel.specs.State.{type_at}
use Rattle.ot_match.specs.Found.{terms_of}
use Rattle.ot_match.proofs.terms.held_term.Given as goal

abbrev pub invariant-each : goal.invariant-each
invariant-each l =
    lookup (same_var names (record { name = l.name; ty = type_at l.kernel l.ty })) (terms_of l.kernel l.vars)
    ≡ lookup (same_var names (record { name = l.name; ty = type_at l.kernel l.ty }))
    (terms_of l.kernel (drop l.var-index l.vars))
