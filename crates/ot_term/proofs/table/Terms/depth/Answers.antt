use Rattle.std.proofs.Common.{sym}
use Rattle.ot_term.proofs.TermTableLemmas.{suits_at, depth-limit}
use Rattle.ot_term.proofs.table.Terms.depth.Goals as goal

pub returns-clause-depth : goal.returns-clause-depth
returns-clause-depth c = rw (← c.self.view_is, ← c.id.view_is)
    (suits_at _ _ _ _ c.self.invariant.nodes c.id.inside.0 _ _ (sym c.in-Some.ensures.entry)).depth

pub returns-clause-limit : goal.returns-clause-limit
returns-clause-limit c =
    depth-limit _ _ _ _ (suits_at _ _ _ _ c.self.invariant.nodes c.id.inside.0 _ _ (sym c.in-Some.ensures.entry))
