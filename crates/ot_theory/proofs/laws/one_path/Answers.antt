use Rattle.ot_theory.proofs.Paths.{tells_paths}
use Rattle.ot_theory.proofs.laws.one_path.Goals as goal

pub returns : goal.returns
returns c = tells_paths
