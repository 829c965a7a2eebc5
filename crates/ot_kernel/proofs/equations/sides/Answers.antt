use Rattle.std.proofs.Common.{refl}
use Rattle.ot_kernel.proofs.Equating.{sides_at, no_sides}
use Rattle.ot_kernel.proofs.equations.sides.Goals as goal

pub returns-in-Some-clause-ok : goal.returns-in-Some-clause-ok
returns-in-Some-clause-ok c =
    let t = c.args.terms.now in
    let (ty, e) = c.in-Some.ensures.sides in (
      ty,
      sides_at t c.types-types.ensures.table c.args.id _ _ ty c.requires c.in-Some.ensures.below.0
          c.in-Some.ensures.below.1 e,
    )

pub returns-in-None-clause-err : goal.returns-in-None-clause-err
returns-in-None-clause-err c = (refl, no_sides _ c.in-None.ensures.none)
