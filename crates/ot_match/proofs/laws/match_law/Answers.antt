use Rattle.ot_logic.specs.Naming.{names, numbers}
use Rattle.ot_laws.proofs.Tests.{tells_names, tells_numbers}
use Rattle.ot_match.proofs.Matches.{matched_is_match, none_match, one_match, any_substitution}
use Rattle.ot_match.proofs.Walking.{walk_matches}
use Rattle.ot_match.proofs.laws.match_law.Goals as goal

pub returns-clause-of_names : goal.returns-clause-of_names
returns-clause-of_names c = matched_is_match names tells_names

pub returns-clause-of_numbers : goal.returns-clause-of_numbers
returns-clause-of_numbers c = matched_is_match numbers tells_numbers

pub returns-clause-none_of_names : goal.returns-clause-none_of_names
returns-clause-none_of_names c = none_match names tells_names

pub returns-clause-none_of_numbers : goal.returns-clause-none_of_numbers
returns-clause-none_of_numbers c = none_match numbers tells_numbers

pub returns-clause-one_of_names : goal.returns-clause-one_of_names
returns-clause-one_of_names c = one_match names tells_names

pub returns-clause-one_of_numbers : goal.returns-clause-one_of_numbers
returns-clause-one_of_numbers c = one_match numbers tells_numbers

pub returns-clause-any_of_names : goal.returns-clause-any_of_names
returns-clause-any_of_names c = any_substitution names tells_names

pub returns-clause-any_of_numbers : goal.returns-clause-any_of_numbers
returns-clause-any_of_numbers c = any_substitution numbers tells_numbers

pub returns-clause-walk_of_names : goal.returns-clause-walk_of_names
returns-clause-walk_of_names c = walk_matches names tells_names

pub returns-clause-walk_of_numbers : goal.returns-clause-walk_of_numbers
returns-clause-walk_of_numbers c = walk_matches numbers tells_numbers
