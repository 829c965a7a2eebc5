use Rattle.std.proofs.Common.{◌≡◌, Some, slice_get}
use Rattle.ot_type.specs.TypeTable.{tree_of}
use Rattle.ot_view.proofs.Spelled.{type_node-tree, type_node-inside}
use Rattle.ot_view.proofs.type_node.Goals as goal

tree : (c : goal.After-node) → slice_get c.terms.result.now.types c.args.id
    ≡ Some (tree_of c.terms.result.now.types c.node.result.now)
tree c = rw c.types.ensures.types at c.node.ensures.tree

pub returns-clause-tree : goal.returns-clause-tree
returns-clause-tree c = type_node-tree c.args.kernel.now c.terms.result.now c.terms.ensures c.sound.ensures.names
    c.args.id c.node.result.now (tree c) c.node.ensures.args

pub returns-clause-inside : goal.returns-clause-inside
returns-clause-inside c = type_node-inside c.args.kernel.now c.terms.result.now c.terms.ensures c.sound.ensures.names
    c.args.id c.node.result.now (tree c) c.node.ensures.args
