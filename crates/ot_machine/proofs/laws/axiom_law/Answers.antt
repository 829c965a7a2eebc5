use Rattle.ot_machine.proofs.AxiomGives.{axiom-gives}
use Rattle.ot_machine.proofs.laws.axiom_law.Goals as goal

pub returns : goal.returns
returns c = axiom-gives
