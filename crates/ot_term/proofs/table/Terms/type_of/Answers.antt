use Rattle.std.proofs.Common.{sym}
use Rattle.ot_term.proofs.TermTableLemmas.{suits_at}
use Rattle.ot_term.proofs.table.Terms.type_of.Goals as goal

pub returns-clause-below : goal.returns-clause-below
returns-clause-below c =
    rw (← c.self.view_is)
    (suits_at _ _ _ _ c.self.invariant.nodes c.id.inside.0 _ _ (sym c.in-Some.ensures.entry)).below

pub returns-clause-typed : goal.returns-clause-typed
returns-clause-typed c = rw (← c.self.view_is, ← c.id.view_is)
    (suits_at _ _ _ _ c.self.invariant.nodes c.id.inside.0 _ _ (sym c.in-Some.ensures.entry)).typed
