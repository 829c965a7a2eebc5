use Rattle.ot_logic.specs.Names.{Name}
use Rattle.ot_machine.proofs.RunLawful.{results-are}
use Rattle.ot_machine.proofs.laws.results_law.Goals as goal

pub returns : goal.returns
returns c = results-are (λ (n : Name). Unit {0})
