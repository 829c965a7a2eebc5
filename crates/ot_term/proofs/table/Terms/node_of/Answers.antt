use Rattle.std.proofs.Common.{sym}
use Rattle.ot_term.proofs.table.Terms.node_of.Goals as goal

pub returns-in-Some-clause-tree : goal.returns-in-Some-clause-tree
returns-in-Some-clause-tree c = rw (← c.self.view_is, ← c.id.view_is)
    (c.self.invariant.nodes.entries c.id.inside.0 _ _ (sym c.in-Some.ensures.entry)).tree

pub returns-in-Some-clause-below : goal.returns-in-Some-clause-below
returns-in-Some-clause-below c = rw (← c.self.view_is, ← c.id.view_is)
    (c.self.invariant.nodes.entries c.id.inside.0 _ _ (sym c.in-Some.ensures.entry)).below
