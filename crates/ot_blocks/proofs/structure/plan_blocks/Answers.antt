use Rattle.ot_theory.specs.Answers.{blocks_of}
use Rattle.ot_blocks.proofs.PlanLaws.{sound_plan}
use Rattle.ot_blocks.proofs.structure.plan_blocks.Goals as goal

pub returns-clause-sound : goal.returns-clause-sound
returns-clause-sound c = sound_plan c.made_plan.result (blocks_of c.args.blocks.now) c.requires c.made_plan.ensures
