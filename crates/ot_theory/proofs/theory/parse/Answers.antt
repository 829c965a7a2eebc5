use Rattle.ot_theory.proofs.Soundness.{parsed_sound}
use Rattle.ot_theory.proofs.theory.parse.Goals as goal

pub returns-clause-sound : goal.returns-clause-sound
returns-clause-sound c = parsed_sound c.read.result c.args.text.now c.read.ensures
