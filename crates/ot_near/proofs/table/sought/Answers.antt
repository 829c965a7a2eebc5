use Rattle.std.proofs.Common.{sym, subst}
use Rattle.ot_near.specs.Table.{IsFull}
use Rattle.ot_near.proofs.Placing.{sought-full}
use Rattle.ot_near.proofs.table.sought.Goals as goal

pub returns-then-is_full-clause-sought : goal.returns-then-is_full-clause-sought
returns-then-is_full-clause-sought g c =
    sought-full g.K.PartialEq.eq g.K.Refers.greatest g.met.K.Eq.laws g.met.K.Refers.greatest_alike
    c.args.entries.now.entries c.args.users.now c.args.node c.contains_key.result c.requires
    (subst (IsFull c.args.users.now) c.greatest.ensures (c.has_many-is_full.ensures.0 c.if-is_full.true))
    (sym c.contains_key.ensures)
