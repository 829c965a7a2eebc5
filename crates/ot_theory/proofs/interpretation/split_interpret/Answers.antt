use Rattle.ot_theory.proofs.Interpreting.{names_answered}
use Rattle.ot_theory.proofs.interpretation.split_interpret.Goals as goal

pub returns-clause-names : goal.returns-clause-names
returns-clause-names c = names_answered c.split.result c.args.value.now c.split.ensures
