use Rattle.ot_blocks.proofs.FullNames.{one_full_name}
use Rattle.ot_blocks.proofs.laws.one_full_name.Goals as goal

pub returns : goal.returns
returns c = one_full_name
