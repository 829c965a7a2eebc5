use Rattle.ot_view.proofs.Spelled.{term_node-tree, term_node-inside}
use Rattle.ot_view.proofs.term_node.Goals as goal

pub returns-clause-tree : goal.returns-clause-tree
returns-clause-tree c = term_node-tree c.args.kernel.now c.terms.result.now c.terms.ensures c.sound.ensures.names
    c.args.id c.node.result.now c.node.ensures.tree c.node.ensures.below

pub returns-clause-inside : goal.returns-clause-inside
returns-clause-inside c = term_node-inside c.args.kernel.now c.terms.result.now c.terms.ensures c.sound.ensures.names
    c.args.id c.node.result.now c.node.ensures.tree c.node.ensures.below
