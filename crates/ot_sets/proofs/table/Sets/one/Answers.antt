use Rattle.ot_sets.proofs.UnionLemmas.{set-one}
use Rattle.ot_sets.proofs.table.Sets.one.Goals as goal

pub returns-clause-ok : goal.returns-clause-ok
returns-clause-ok c = set-one c.intern.new.self c.in_ok-id.id c.args.number c.in_ok-id.ensures.ok
