use Rattle.std.proofs.Common.{◌∙◌, sym, ap}
use Rattle.ot_log_nodes.specs.Table.{term_tree}
use Rattle.ot_log_nodes.specs.Typing.{is_leaf}
use Rattle.ot_log_nodes.proofs.table.Nodes.is_leaf.Goals as goal

pub returns-in-Free : goal.returns-in-Free
returns-in-Free c = sym (ap is_leaf (c.term_node.ensures.tree ∙ ap (term_tree c.args.self.now) c.in-Free.is))

pub returns-in-Const : goal.returns-in-Const
returns-in-Const c = sym (ap is_leaf (c.term_node.ensures.tree ∙ ap (term_tree c.args.self.now) c.in-Const.is))

pub returns-in-Bound : goal.returns-in-Bound
returns-in-Bound c = sym (ap is_leaf (c.term_node.ensures.tree ∙ ap (term_tree c.args.self.now) c.in-Bound.is))

pub returns-in-App : goal.returns-in-App
returns-in-App c = sym (ap is_leaf (c.term_node.ensures.tree ∙ ap (term_tree c.args.self.now) c.in-App.is))

pub returns-in-Abs : goal.returns-in-Abs
returns-in-Abs c = sym (ap is_leaf (c.term_node.ensures.tree ∙ ap (term_tree c.args.self.now) c.in-Abs.is))
