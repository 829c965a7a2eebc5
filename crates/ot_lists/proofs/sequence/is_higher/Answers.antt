use Rattle.std.proofs.Common.{arith}
use Rattle.ot_lists.proofs.Ranks.{lower}
use Rattle.ot_lists.proofs.sequence.is_higher.Goals as goal

pub returns-clause-lower : goal.returns-clause-lower
returns-clause-lower c = λ e n. lower c.args.x c.args.y _ _ (omega (arith, c.ranges.x.fits)) (omega (arith, c.ranges.y.fits))
    c.rank_of-left.ensures c.rank_of-right.ensures e n
