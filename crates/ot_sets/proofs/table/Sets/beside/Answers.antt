use Rattle.ot_sets.proofs.UnionLemmas.{union-turned}
use Rattle.ot_sets.proofs.table.Sets.beside.Goals as goal

pub returns-in_ok-turned-clause-ok : goal.returns-in_ok-turned-clause-ok
returns-in_ok-turned-clause-ok c =
    union-turned _ c.args.other c.args.set c.in_ok-turned.turned c.in_ok-turned.ensures.ok
