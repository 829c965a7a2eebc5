use Rattle.std.proofs.Common.{sym}
use Rattle.ot_type.proofs.TypeTableLemmas.{fun_parts}
use Rattle.ot_type.proofs.table.Types.as_fun.Goals as goal

pub returns-in-Op : goal.returns-in-Op
returns-in-Op c = fun_parts c.args.self.now c.args.id c.in-Op.name c.as_slice.result.now c.node.result.now
    c.in-Op.args c.node.ensures.tree c.in-Op.is (sym c.as_slice.ensures) c.node.ensures.args c.two_of_arrow.result
    c.two_of_arrow.ensures
