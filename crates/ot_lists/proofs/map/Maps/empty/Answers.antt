use Rattle.std.proofs.Common.{sym}
use Rattle.ot_lists.proofs.MapLemmas.{first-empty}
use Rattle.ot_lists.proofs.map.Maps.empty.Goals as goal

pub returns-in-Some-clause-ok : goal.returns-in-Some-clause-ok
returns-in-Some-clause-ok c =
    rw (← c.self.view_is) (first-empty _ _ c.self.invariant _ _ (sym c.in-Some.ensures.entry))
