use Rattle.ot_blocks.proofs.PlanLaws.{plan_ends, gives_plan}
use Rattle.ot_blocks.proofs.laws.plan_law.Goals as goal

pub returns-clause-ends : goal.returns-clause-ends
returns-clause-ends c = plan_ends

pub returns-clause-plan : goal.returns-clause-plan
returns-clause-plan c = gives_plan
