use Rattle.ot_log_nodes.proofs.ShapeLemmas.{as_fun-answer}
use Rattle.ot_log_nodes.proofs.table.Nodes.as_fun.Goals as goal

pub returns-in-Op : goal.returns-in-Op
returns-in-Op c =
    as_fun-answer c.args.self.now c.primitives.ensures.first c.primitives.ensures.once c.args.id
    c.type_node.result.now c.in-Op.name c.in-Op.args c.as_slice.result.now c.in-Op.is c.as_slice.ensures
    c.type_node.ensures.tree c.type_node.ensures.parts c.two_of_arrow.result c.two_of_arrow.ensures
