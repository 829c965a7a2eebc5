use Rattle.ot_log_nodes.specs.Items.{name_at}
use Rattle.ot_text.proofs.Putting.{same-text}
use Rattle.ot_text.proofs.Separating.{names-separated}
use Rattle.ot_log_text.proofs.definitions.put_names.Goals as goal

pub returns : goal.returns
returns c = same-text (names-separated (name_at c.args.nodes.now) c.args.names.now) c.put_separated.ensures
