use Rattle.std.proofs.lemmas.Bool.Decides.{Decides-eqb}
use Rattle.ot_logic.specs.Names.{same_name-Decides}
use Rattle.ot_logic.specs.Naming.{names, numbers}
use Rattle.ot_interp.proofs.Composed.{inner_then_outer}
use Rattle.ot_interp.proofs.laws.after_law.Goals as goal

pub returns-clause-of_names : goal.returns-clause-of_names
returns-clause-of_names c = inner_then_outer names same_name-Decides

pub returns-clause-of_numbers : goal.returns-clause-of_numbers
returns-clause-of_numbers c = inner_then_outer numbers Decides-eqb
