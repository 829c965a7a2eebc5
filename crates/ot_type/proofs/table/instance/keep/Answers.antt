use Rattle.ot_type.proofs.InstLemmas.{IsMemo-insert}
use Rattle.ot_type.proofs.table.instance.keep.Goals as goal

pub returns-in_ok-insert : goal.returns-in_ok-insert
returns-in_ok-insert c = λ ts s memo within tree.
    IsMemo-insert ts s _ _ c.args.id c.args.instance memo within tree c.in_ok-insert.ensures.updates.0
