use Rattle.ot_repo.proofs.Requiring.{gives_required, gives_refusal, required_ends}
use Rattle.ot_repo.proofs.laws.required_law.Goals as goal

pub returns-clause-gives : goal.returns-clause-gives
returns-clause-gives c = gives_required

pub returns-clause-ends : goal.returns-clause-ends
returns-clause-ends c = required_ends

pub returns-clause-refuses : goal.returns-clause-refuses
returns-clause-refuses c = gives_refusal
