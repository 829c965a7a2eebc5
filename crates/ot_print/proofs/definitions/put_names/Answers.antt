use Rattle.ot_kernel.specs.State.{name_at}
use Rattle.ot_text.proofs.Putting.{same-text}
use Rattle.ot_text.proofs.Separating.{names-separated}
use Rattle.ot_print.proofs.definitions.put_names.Goals as goal

pub returns : goal.returns
returns c = same-text (names-separated (name_at c.args.kernel.now) c.args.names.now) c.put_separated.ensures
