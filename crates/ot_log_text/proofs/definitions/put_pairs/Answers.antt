use Rattle.ot_log_nodes.specs.Items.{name_at}
use Rattle.ot_log_nodes.specs.Changing.{variable_at}
use Rattle.ot_text.proofs.Putting.{same-text}
use Rattle.ot_text.proofs.Separating.{pairs-separated}
use Rattle.ot_log_text.proofs.definitions.put_pairs.Goals as goal

pub returns : goal.returns
returns c = same-text (pairs-separated (λ p. (name_at c.args.nodes.now p.0, variable_at c.args.nodes.now p.1)) c.args.pairs.now) c.put_separated.ensures
