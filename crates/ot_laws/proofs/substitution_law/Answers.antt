use Rattle.ot_logic.specs.Naming.{names, numbers}
use Rattle.ot_laws.proofs.Tests.{tells_names, tells_numbers}
use Rattle.ot_laws.proofs.Apply.{apply_by-is}
use Rattle.ot_laws.proofs.New.{binders_of_names, binders_of_numbers}
use Rattle.ot_laws.proofs.substitution_law.Goals as goal

pub returns-clause-of_names : goal.returns-clause-of_names
returns-clause-of_names c = apply_by-is names tells_names

pub returns-clause-of_numbers : goal.returns-clause-of_numbers
returns-clause-of_numbers c = apply_by-is numbers tells_numbers

pub returns-clause-picked_names : goal.returns-clause-picked_names
returns-clause-picked_names c = binders_of_names

pub returns-clause-picked_numbers : goal.returns-clause-picked_numbers
returns-clause-picked_numbers c = binders_of_numbers
