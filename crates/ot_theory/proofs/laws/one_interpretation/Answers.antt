use Rattle.ot_theory.proofs.Interpreting.{one_interpretation}
use Rattle.ot_theory.proofs.laws.one_interpretation.Goals as goal

pub returns : goal.returns
returns c = one_interpretation
