use Rattle.ot_program.proofs.SoundAnswers.{answers_are_sound}
use Rattle.ot_program.proofs.laws.answer_law.Goals as goal

pub returns : goal.returns
returns c = answers_are_sound c.ends_law.ensures c.run_soundness_law.ensures.named c.soundness_law.ensures.of_names
