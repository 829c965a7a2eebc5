use Rattle.ot_written.proofs.NeededList.{stored-enough-law}
use Rattle.ot_written.proofs.laws.stored_enough_law.Goals as goal

pub returns-clause-of_names : goal.returns-clause-of_names
returns-clause-of_names c = stored-enough-law

pub returns-clause-of_numbers : goal.returns-clause-of_numbers
returns-clause-of_numbers c = stored-enough-law
