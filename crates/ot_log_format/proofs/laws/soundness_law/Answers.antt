use Rattle.ot_logic.specs.Naming.{names, numbers}
use Rattle.ot_laws.proofs.Tests.{tells_names, tells_numbers}
use Rattle.ot_log_format.proofs.CheckSound.{logs_are_sound}
use Rattle.ot_log_format.proofs.laws.soundness_law.Goals as goal

pub returns-clause-of_names : goal.returns-clause-of_names
returns-clause-of_names c = logs_are_sound names tells_names

pub returns-clause-of_numbers : goal.returns-clause-of_numbers
returns-clause-of_numbers c = logs_are_sound numbers tells_numbers
