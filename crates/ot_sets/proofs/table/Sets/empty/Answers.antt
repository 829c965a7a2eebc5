use Rattle.ot_sets.proofs.UnionLemmas.{set-empty}
use Rattle.ot_sets.proofs.table.Sets.empty.Goals as goal

pub returns-clause-ok : goal.returns-clause-ok
returns-clause-ok c = set-empty c.intern.new.self c.in_ok-id.id c.in_ok-id.ensures.ok
