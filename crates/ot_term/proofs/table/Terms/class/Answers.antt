use Rattle.std.proofs.Common.{sym}
use Rattle.ot_term.proofs.Classing.{entry-class}
use Rattle.ot_term.proofs.table.Terms.class.Goals as goal

pub returns-clause-class : goal.returns-clause-class
returns-clause-class c =
    rw (← c.self.view_is, ← c.id.view_is) (entry-class _ c.id.inside.0 _ _ (sym c.in-Some.ensures.entry))
