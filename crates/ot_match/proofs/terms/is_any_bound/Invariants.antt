use Rattle.std.proofs.Common.{◌≡◌, drop, map}
use Rattle.ot_kernel.specs.State.{variable_at}
use Rattle.ot_view.specs.Binders.{binders_at}
use Rattle.ot_match.specs.Steps.{any_bound}
use Rattle.ot_match.proofs.terms.is_any_bound.Given as goal

abbrev pub invariant-each : goal.invariant-each
invariant-each l =
    any_bound (binders_at l.kernel l.binders) (map (variable_at l.kernel) l.vars)
    ≡ any_bound (binders_at l.kernel l.binders) (map (variable_at l.kernel) (drop l.v-index l.vars))
