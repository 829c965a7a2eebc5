use Rattle.std.proofs.Common.{rules}
use Rattle.ot_lists.specs.Ranks.{rank}
use Rattle.ot_lists.proofs.sequence.rank_of.Goals as goal

pub returns : goal.returns
unfolding rank
returns c = search rules
