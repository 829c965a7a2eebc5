use Rattle.ot_link.proofs.EndsLawful.{ends_are_lawful}
use Rattle.ot_link.proofs.laws.ends_law.Goals as goal

pub returns : goal.returns
returns c = ends_are_lawful
