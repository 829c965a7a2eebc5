use Rattle.ot_written.proofs.NeededLaw.{needed-set-law}
use Rattle.ot_written.proofs.laws.needed_set_law.Goals as goal

pub returns-clause-of_names : goal.returns-clause-of_names
returns-clause-of_names c = needed-set-law

pub returns-clause-of_numbers : goal.returns-clause-of_numbers
returns-clause-of_numbers c = needed-set-law
