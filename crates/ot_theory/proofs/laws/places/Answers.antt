use Rattle.ot_theory.proofs.Standing.{in_place}
use Rattle.ot_theory.proofs.laws.places.Goals as goal

pub returns : goal.returns
returns c = in_place
