use Rattle.std.proofs.Common.{arith}
use Rattle.std.proofs.lemmas.Grind.{common_steps}
use Rattle.ot_log_rules.proofs.Numbers.{once-next}
use Rattle.ot_log_rules.proofs.statement.each_by_scans.Goals as goal

pub loop-i-preserved : goal.loop-i-preserved
loop-i-preserved c =
    grind (
      arith,
      common_steps,
      once-next c.args.g.now c.loop-i.i c.index-g-i.result c.contains.result
          c.loop-i-test.true c.index-g-i.is c.contains.ensures.value,
    )
