use Rattle.std.proofs.Common.{sym, ap, subst, ◌∙◌}
use Rattle.ot_log_nodes.specs.Table.{type_tree, HasTypeParts}
use Rattle.ot_log_rules.proofs.Shaped.{boolean-made, boolean-other}
use Rattle.ot_log_rules.proofs.shapes.is_boolean.Goals as goal

pub returns-then-eq : goal.returns-then-eq
returns-then-eq c =
    let ts = c.args.nodes.now in
    boolean-made ts c.primitives.ensures.first c.primitives.ensures.once c.args.ty c.in-Op.name c.in-Op.args.items
    (c.type_node.ensures.tree ∙ ap (type_tree ts) c.in-Op.is) (sym c.eq.ensures ∙ c.if-eq.true) c.is_empty.result
    c.is_empty.ensures

pub returns-else-eq : goal.returns-else-eq
returns-else-eq c =
    let ts = c.args.nodes.now in
    let parts = subst (HasTypeParts ts) c.in-Op.is c.type_node.ensures.parts in
    boolean-other ts c.primitives.ensures.first c.primitives.ensures.once c.args.ty c.in-Op.name c.in-Op.args.items
    parts.0 (c.type_node.ensures.tree ∙ ap (type_tree ts) c.in-Op.is) (sym c.eq.ensures ∙ c.if-eq.false)
    c.eq.result c.if-eq.false
