use Rattle.ot_logic.proofs.Reading.{exclusive, has_answer}
use Rattle.ot_logic.proofs.name.one_answer.Goals as goal

pub returns-clause-some : goal.returns-clause-some
returns-clause-some c = has_answer

pub returns-clause-only : goal.returns-clause-only
returns-clause-only c = exclusive
