use Rattle.std.proofs.Common.{sym}
use Rattle.ot_type.proofs.TypeTableLemmas.{described_at}
use Rattle.ot_type.proofs.table.Types.beside.Goals as goal

pub returns : goal.returns
returns c = rw (← c.self.view_is, ← c.id.view_is)
    (described_at _ _ c.self.invariant c.id.inside.0 _ _ (sym c.in-Some.ensures.entry))
