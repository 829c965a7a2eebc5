use Rattle.ot_logic.proofs.Spelling.{spelled-plain, spelled-one, spelled-apart}
use Rattle.ot_logic.proofs.name.one_spelling.Goals as goal

pub returns-clause-plain : goal.returns-clause-plain
returns-clause-plain c = spelled-plain

pub returns-clause-one : goal.returns-clause-one
returns-clause-one c = spelled-one

pub returns-clause-apart : goal.returns-clause-apart
returns-clause-apart c = spelled-apart
