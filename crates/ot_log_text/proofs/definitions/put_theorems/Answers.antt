use Rattle.ot_log_rules.specs.Statements.{sequent_at}
use Rattle.ot_text.proofs.Putting.{same-text}
use Rattle.ot_text.proofs.Separating.{theorems-separated}
use Rattle.ot_log_text.proofs.definitions.put_theorems.Goals as goal

pub returns : goal.returns
returns c = same-text (theorems-separated (sequent_at c.args.nodes.now) c.args.theorems.now) c.put_separated.ensures
