use Rattle.ot_type.proofs.InstLemmas.{nothing_put}
use Rattle.ot_type.proofs.table.Types.inst.Goals as goal

pub returns-then-is_empty-clause-ok : goal.returns-then-is_empty-clause-ok
returns-then-is_empty-clause-ok c =
    nothing_put c.args.self.now c.args.s.now c.args.id (c.is_empty.ensures.0 c.if-is_empty.true) c.requires.id
