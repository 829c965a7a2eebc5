use Rattle.std.proofs.lemmas.Result.{on_ok_weaker}
use Rattle.std.proofs.Common.{subst}
use Rattle.ot_type.specs.TypeTable.{ArgsBelow}
use Rattle.ot_type.proofs.TypeTableLemmas.{node_op}
use Rattle.ot_type.proofs.SubtypeLemmas.{parts_of_op}
use Rattle.ot_type.proofs.table.Types.add_parts.Goals as goal

pub returns-in-Op : goal.returns-in-Op
returns-in-Op c =
    let args = c.in-Op.args.items in
    let root = node_op c.args.self.now c.args.id c.node.result.now c.in-Op.field-0 c.in-Op.args c.as_slice.result.now
    c.node.ensures.tree c.in-Op.is c.as_slice.ensures in
    let below = subst (ArgsBelow c.args.id) c.in-Op.is c.node.ensures.args in
    on_ok_weaker c.add_all.result (λ same. parts_of_op c.args.self.now c.args.id c.in-Op.field-0 c.as_slice.result.now
    c.args.pending.now.keys c.add_all.new.set.keys root (rw c.as_slice.ensures below) same) c.add_all.ensures
