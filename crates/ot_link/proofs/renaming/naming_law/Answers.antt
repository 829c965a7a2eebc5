use Rattle.ot_link.proofs.Naming.{blocks-naming}
use Rattle.ot_link.proofs.renaming.naming_law.Goals as goal

pub returns : goal.returns
returns c = blocks-naming c.lines_law.ensures.said c.one_interpretation.ensures c.after_law.ensures.of_names
