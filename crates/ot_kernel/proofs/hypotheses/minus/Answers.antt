use Rattle.std.proofs.Common.{arith}
use Rattle.std.proofs.lemmas.Grind.{common_steps}
use Rattle.ot_kernel.proofs.Comparing.{minus_next}
use Rattle.ot_kernel.proofs.hypotheses.minus.Goals as goal

pub loop-u-preserved : goal.loop-u-preserved
loop-u-preserved c =
    grind (
      arith,
      common_steps,
      minus_next c.args.terms.now.terms c.args.t c.args.g.now c.loop-u.u-index
          c.u-item.result c.alpha_eq.result c.loop-u-test.true c.u-item.is c.alpha_eq.ensures,
    )
