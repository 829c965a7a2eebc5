use Rattle.ot_written.proofs.Same.{same-origin-law}
use Rattle.ot_written.proofs.laws.same_origin_law.Goals as goal

pub returns-clause-of_names : goal.returns-clause-of_names
returns-clause-of_names c = same-origin-law

pub returns-clause-of_numbers : goal.returns-clause-of_numbers
returns-clause-of_numbers c = same-origin-law
