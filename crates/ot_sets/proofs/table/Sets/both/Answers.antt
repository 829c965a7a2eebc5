use Rattle.ot_sets.proofs.UnionLemmas.{union-new}
use Rattle.ot_sets.proofs.table.Sets.both.Goals as goal

pub returns-clause-ok : goal.returns-clause-ok
returns-clause-ok c =
    union-new c.args.self.now c.intern.new.self c.intern.ensures.extends c.args.first c.args.second
    c.in_ok-id.id c.requires.first c.requires.second c.in_ok-id.ensures.ok
