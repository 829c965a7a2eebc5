use Rattle.ot_kernel.proofs.Placed.{no_sequents}
use Rattle.ot_kernel.proofs.places.Places.new.Goals as goal

pub returns-clause-none : goal.returns-clause-none
returns-clause-none c = λ k. no_sequents k c.new.result.entries c.new.ensures.empty
