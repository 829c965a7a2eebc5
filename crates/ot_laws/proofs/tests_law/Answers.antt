use Rattle.ot_logic.specs.Naming.{names, numbers}
use Rattle.ot_laws.proofs.Tests.{tells_names, tells_numbers}
use Rattle.ot_laws.proofs.Laws.{tests_decide}
use Rattle.ot_laws.proofs.tests_law.Goals as goal

pub returns-clause-of_names : goal.returns-clause-of_names
returns-clause-of_names c = tests_decide names tells_names

pub returns-clause-of_numbers : goal.returns-clause-of_numbers
returns-clause-of_numbers c = tests_decide numbers tells_numbers
