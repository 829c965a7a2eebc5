use Rattle.std.proofs.Common.{ap, subst, ◌∙◌}
use Rattle.ot_log_nodes.specs.Table.{term_tree, HasTermParts}
use Rattle.ot_log_rules.proofs.Shaped.{equals-made, equals-other}
use Rattle.ot_log_rules.proofs.shapes.as_equals.Goals as goal

pub returns-then-eq : goal.returns-then-eq
returns-then-eq c =
    let ts = c.args.nodes.now in
    equals-made ts c.primitives.ensures.first c.primitives.ensures.once c.args.id c.in-Const.name c.in-Const.ty
    c.eq.result (c.term_node.ensures.tree ∙ ap (term_tree ts) c.in-Const.is) c.eq.ensures c.if-eq.true
    c.as_relation.result c.as_relation.ensures

pub returns-else-eq : goal.returns-else-eq
returns-else-eq c =
    let ts = c.args.nodes.now in
    let parts = subst (HasTermParts ts) c.in-Const.is c.term_node.ensures.parts in
    equals-other ts c.primitives.ensures.first c.primitives.ensures.once c.args.id c.in-Const.name c.in-Const.ty
    c.eq.result parts.0 (c.term_node.ensures.tree ∙ ap (term_tree ts) c.in-Const.is) c.eq.ensures c.if-eq.false
