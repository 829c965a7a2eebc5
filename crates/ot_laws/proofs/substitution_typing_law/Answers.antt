use Rattle.ot_logic.specs.Naming.{names, numbers}
use Rattle.ot_laws.proofs.Tests.{tells_names, tells_numbers}
use Rattle.ot_laws.proofs.Typed.{subst-typed}
use Rattle.ot_laws.proofs.substitution_typing_law.Goals as goal

pub returns-clause-of_names : goal.returns-clause-of_names
returns-clause-of_names c = subst-typed names tells_names

pub returns-clause-of_numbers : goal.returns-clause-of_numbers
returns-clause-of_numbers c = subst-typed numbers tells_numbers
