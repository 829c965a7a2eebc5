use Rattle.ot_logic.specs.Naming.{names, numbers}
use Rattle.ot_laws.proofs.Laws.{growth}
use Rattle.ot_laws.proofs.growth_law.Goals as goal

pub returns-clause-of_names : goal.returns-clause-of_names
returns-clause-of_names c = growth names

pub returns-clause-of_numbers : goal.returns-clause-of_numbers
returns-clause-of_numbers c = growth numbers
