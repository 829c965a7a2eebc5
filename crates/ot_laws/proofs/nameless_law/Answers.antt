use Rattle.ot_logic.specs.Naming.{names, numbers}
use Rattle.ot_laws.proofs.Tests.{tells_names, tells_numbers}
use Rattle.ot_laws.proofs.Named.{nameless_in-nil, free-nameless, nameless-free}
use Rattle.ot_laws.proofs.nameless_law.Goals as goal

pub returns-clause-form_of_names : goal.returns-clause-form_of_names
returns-clause-form_of_names c = nameless_in-nil names tells_names

pub returns-clause-form_of_numbers : goal.returns-clause-form_of_numbers
returns-clause-form_of_numbers c = nameless_in-nil numbers tells_numbers

pub returns-clause-free_in_names : goal.returns-clause-free_in_names
returns-clause-free_in_names c = λ v t. (free-nameless names tells_names v t, nameless-free names tells_names v t)

pub returns-clause-free_in_numbers : goal.returns-clause-free_in_numbers
returns-clause-free_in_numbers c =
    λ v t. (free-nameless numbers tells_numbers v t, nameless-free numbers tells_numbers v t)
