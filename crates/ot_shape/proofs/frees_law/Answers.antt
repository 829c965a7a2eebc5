use Rattle.ot_logic.specs.Naming.{names, numbers}
use Rattle.ot_laws.proofs.Tests.{tells_names, tells_numbers}
use Rattle.ot_shape.proofs.Frees.{frees-to, frees-from, frees-distinct}
use Rattle.ot_shape.proofs.frees_law.Goals as goal

pub returns-clause-free_in_names : goal.returns-clause-free_in_names
returns-clause-free_in_names c = λ v t. (frees-to names tells_names v t, frees-from names tells_names v t)

pub returns-clause-free_in_numbers : goal.returns-clause-free_in_numbers
returns-clause-free_in_numbers c = λ v t. (frees-to numbers tells_numbers v t, frees-from numbers tells_numbers v t)

pub returns-clause-distinct_in_names : goal.returns-clause-distinct_in_names
returns-clause-distinct_in_names c = frees-distinct names tells_names

pub returns-clause-distinct_in_numbers : goal.returns-clause-distinct_in_numbers
returns-clause-distinct_in_numbers c = frees-distinct numbers tells_numbers
