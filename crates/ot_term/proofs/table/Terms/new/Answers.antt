use Rattle.std.proofs.Common.{ap}
use Rattle.ot_term.proofs.Empty.{sound-empty}
use Rattle.ot_term.proofs.table.Terms.new.Goals as goal

pub invariant_of-result : goal.invariant_of-result
invariant_of-result c =
    sound-empty c.new.result c.new-2.result c.new-3.result.entries c.new.ensures c.new-2.ensures
    (ap (λ m. m.entries) c.new-3.ensures)
