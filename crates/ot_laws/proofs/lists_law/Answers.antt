use Rattle.ot_logic.specs.Naming.{names, numbers}
use Rattle.ot_laws.proofs.Tests.{tells_names, tells_numbers}
use Rattle.ot_laws.proofs.Next.{lists_are_next}
use Rattle.ot_laws.proofs.lists_law.Goals as goal

pub returns-clause-of_names : goal.returns-clause-of_names
returns-clause-of_names c = lists_are_next names tells_names

pub returns-clause-of_numbers : goal.returns-clause-of_numbers
returns-clause-of_numbers c = lists_are_next numbers tells_numbers
