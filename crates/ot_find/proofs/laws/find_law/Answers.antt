use Rattle.ot_find.proofs.Matching.{matches_are_those, matches_of_one_more}
use Rattle.ot_find.proofs.laws.find_law.Goals as goal

pub returns-clause-those : goal.returns-clause-those
returns-clause-those c = matches_are_those

pub returns-clause-one_more : goal.returns-clause-one_more
returns-clause-one_more c = matches_of_one_more
