use Rattle.std.proofs.Common.{ℕ, List, subst, sym, ap, refl, ◌∙◌, ◌∷◌, [], arith}
use Rattle.std.proofs.lemmas.List.{take_all}
use Rattle.ot_log_nodes.specs.Items.{name_at, type_at, types_at}
use Rattle.ot_log_nodes.specs.Table.{type_tree}
use Rattle.ot_logic.specs.Trees.{TyOp}
use Rattle.ot_log_rules.specs.Parts.{marks_ty, marks_all, mark_at, Gathers}
use Rattle.ot_log_rules.specs.declared.parts.Mark.TheVariants as mark
use Rattle.ot_log_rules.proofs.Gathering.{gathers-nothing, gathers-on, gathers-known_type}
use Rattle.ot_log_rules.proofs.Gathering.{gathers-type, gathers-next_type}
use Rattle.ot_log_rules.proofs.parts.Parts.+types.Goals as goal
use Rattle.ot_logic.proofs.Results.{on_ok-then}

pub add_type-returns-then-contains : goal.add_type-returns-then-contains
add_type-returns-then-contains t c = gathers-known_type c.args.nodes.now c.args.self.now c.args.id c.contains.result
    c.requires.gone c.contains.ensures c.if-contains.true

pub add_type-returns : goal.add_type-returns
add_type-returns t c = gathers-type c.args.nodes.now (marks_ty (type_at c.args.nodes.now c.args.id)) c.args.self.now
    c.add_type_node.new.self (record c.add_type_node.new.self { types = c.insert.new.self }) c.args.id
    c.in_ok-add_type_node.ensures refl refl refl c.in_ok-insert.ensures.keys

pub add_type_node-returns-in-Var : goal.add_type_node-returns-in-Var
add_type_node-returns-in-Var t c =
    let ts = c.args.nodes.now in
    on_ok-then c.add_mark.result (λ g. subst (λ e. Gathers ts (marks_ty e) c.args.self.now c.add_mark.new.self)
    (sym (c.type_node.ensures.tree ∙ ap (type_tree ts) c.in-Var.is)) g) c.add_mark.ensures

pub add_type_node-returns-in_ok-add_mark-in-Op : goal.add_type_node-returns-in_ok-add_mark-in-Op
add_type_node-returns-in_ok-add_mark-in-Op t c =
    let ts = c.args.nodes.now in
    gathers-on ts c.args.self.now c.add_mark-in-Op.new.self c.add_types.new.self (marks_ty (type_at ts c.args.id))
    (mark_at ts (mark.Operator c.in-Op.name) ∷ []) (marks_all (types_at ts c.as_slice.result.now))
    (ap marks_ty (c.type_node.ensures.tree ∙ ap (type_tree ts) c.in-Op.is
    ∙ ap (λ (is : List ℕ). TyOp (name_at ts c.in-Op.name) (types_at ts is)) (sym c.as_slice.ensures)))
    c.add_types.result c.in_ok-add_mark-in-Op.ensures c.add_types.ensures

pub add_types-loop-id-init : goal.add_types-loop-id-init
add_types-loop-id-init t c = gathers-nothing c.args.nodes.now c.args.self.now c.requires.gone

pub add_types-loop-id-preserved : goal.add_types-loop-id-preserved
add_types-loop-id-preserved t c =
    gathers-next_type c.args.nodes.now c.args.self.now c.loop-id.self c.add_type.new.self c.args.ids.now
    c.loop-id.id-index c.id-item.result c.loop-id-test.true c.id-item.is c.loop-id.invariant c.in_ok-add_type.ensures

pub add_types-returns : goal.add_types-returns
add_types-returns t c =
    subst (λ (l : List ℕ). Gathers c.args.nodes.now (marks_all (types_at c.args.nodes.now l)) c.args.self.now
    c.loop-id.self) (take_all c.loop-id.id-index c.args.ids.now (omega arith)) c.loop-id.invariant
