use Rattle.std.proofs.Common.{subst, sym, ap, refl, ◌∙◌, ◌∷◌, []}
use Rattle.ot_log_nodes.specs.Items.{type_at, term_at}
use Rattle.ot_log_nodes.specs.Table.{term_tree}
use Rattle.ot_log_rules.specs.Parts.{marks_ty, marks_tm, mark_at, Gathers}
use Rattle.ot_log_rules.specs.declared.parts.Mark.TheVariants as mark
use Rattle.ot_log_rules.proofs.Gathering.{gathers-nothing, gathers-on, gathers-known_term, gathers-term}
use Rattle.ot_log_rules.proofs.parts.Parts.+terms.Goals as goal

pub add_term-returns-then-contains : goal.add_term-returns-then-contains
add_term-returns-then-contains t c = gathers-known_term c.args.nodes.now c.args.self.now c.args.id c.contains.result
    c.requires.gone c.contains.ensures c.if-contains.true

pub add_term-returns : goal.add_term-returns
add_term-returns t c = gathers-term c.args.nodes.now (marks_tm (term_at c.args.nodes.now c.args.id)) c.args.self.now
    c.add_node.new.self (record c.add_node.new.self { terms = c.insert.new.self }) c.args.id c.in_ok-add_node.ensures
    refl refl refl c.in_ok-insert.ensures.keys

pub add_node-returns-in-Bound : goal.add_node-returns-in-Bound
add_node-returns-in-Bound t c =
    let ts = c.args.nodes.now in
    subst (λ e. Gathers ts (marks_tm e) c.args.self.now c.args.self.now)
    (sym (c.term_node.ensures.tree ∙ ap (term_tree ts) c.in-Bound.is))
    (gathers-nothing ts c.args.self.now c.requires.gone)

pub add_node-returns-in_ok-add_mark-in-Free : goal.add_node-returns-in_ok-add_mark-in-Free
add_node-returns-in_ok-add_mark-in-Free t c =
    let ts = c.args.nodes.now in
    gathers-on ts c.args.self.now c.add_mark.new.self c.add_type.new.self (marks_tm (term_at ts c.args.id))
    (mark_at ts (mark.Variable c.in-Free.variable) ∷ []) (marks_ty (type_at ts c.in-Free.variable.ty))
    (ap marks_tm (c.term_node.ensures.tree ∙ ap (term_tree ts) c.in-Free.is)) c.add_type.result
    c.in_ok-add_mark-in-Free.ensures c.add_type.ensures

pub add_node-returns-in_ok-add_mark-in-Const : goal.add_node-returns-in_ok-add_mark-in-Const
add_node-returns-in_ok-add_mark-in-Const t c =
    let ts = c.args.nodes.now in
    gathers-on ts c.args.self.now c.add_mark-in-Const.new.self c.add_type-in-Const.new.self
    (marks_tm (term_at ts c.args.id)) (mark_at ts (mark.Constant c.in-Const.name) ∷ [])
    (marks_ty (type_at ts c.in-Const.ty))
    (ap marks_tm (c.term_node.ensures.tree ∙ ap (term_tree ts) c.in-Const.is)) c.add_type-in-Const.result
    c.in_ok-add_mark-in-Const.ensures c.add_type-in-Const.ensures

pub add_node-returns-in_ok-add_term-in-App : goal.add_node-returns-in_ok-add_term-in-App
add_node-returns-in_ok-add_term-in-App t c =
    let ts = c.args.nodes.now in
    gathers-on ts c.args.self.now c.add_term.new.self c.add_term-in-App.new.self (marks_tm (term_at ts c.args.id))
    (marks_tm (term_at ts c.in-App.f)) (marks_tm (term_at ts c.in-App.x))
    (ap marks_tm (c.term_node.ensures.tree ∙ ap (term_tree ts) c.in-App.is)) c.add_term-in-App.result
    c.in_ok-add_term-in-App.ensures c.add_term-in-App.ensures

pub add_node-returns-in_ok-add_type-in-Abs : goal.add_node-returns-in_ok-add_type-in-Abs
add_node-returns-in_ok-add_type-in-Abs t c =
    let ts = c.args.nodes.now in
    gathers-on ts c.args.self.now c.add_type-in-Abs.new.self c.add_term-in-Abs.new.self
    (marks_tm (term_at ts c.args.id)) (marks_ty (type_at ts c.in-Abs.ty)) (marks_tm (term_at ts c.in-Abs.body))
    (ap marks_tm (c.term_node.ensures.tree ∙ ap (term_tree ts) c.in-Abs.is)) c.add_term-in-Abs.result
    c.in_ok-add_type-in-Abs.ensures c.add_term-in-Abs.ensures
