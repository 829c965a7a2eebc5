use Rattle.std.proofs.Common.{ap}
use Rattle.ot_logic.specs.Naming.{names}
use Rattle.ot_laws.proofs.Tests.{tells_names}
use Rattle.ot_laws.proofs.Named.{nameless_in-nil}
use Rattle.ot_kernel.specs.State.{named_at}
use Rattle.ot_text.specs.Texts.{tm_text}
use Rattle.ot_text.proofs.Putting.{same-text}
use Rattle.ot_print.proofs.terms.put_whole.Goals as goal

pub returns : goal.returns
returns c = same-text (ap tm_text (nameless_in-nil names tells_names (named_at c.args.kernel.now.terms c.args.id)))
    c.put_term.ensures
