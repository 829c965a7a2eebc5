use Rattle.ot_blocks.proofs.Ordering.{ends_always, gives_order, gives_cycle}
use Rattle.ot_blocks.proofs.laws.order_law.Goals as goal

pub returns-clause-ends : goal.returns-clause-ends
returns-clause-ends c = ends_always

pub returns-clause-order : goal.returns-clause-order
returns-clause-order c = gives_order

pub returns-clause-cycle : goal.returns-clause-cycle
returns-clause-cycle c = gives_cycle
