use Rattle.std.proofs.Common.{inl, inr, length, subst}
use Rattle.std.proofs.lemmas.Result.{on_ok_weaker}
use Rattle.ot_term.specs.TermTable.{AreBelow, variable_of}
use Rattle.ot_term.proofs.Gathering.{node_tree, parts_of_variable, parts_of_constant}
use Rattle.ot_term.proofs.Gathering.{parts_of_application, parts_of_abstraction}
use Rattle.ot_term.proofs.table.Terms.add_parts.Goals as goal

pub returns-in-App : goal.returns-in-App
returns-in-App c =
    let t = c.args.self.now in
    let root = node_tree t.types t.terms c.args.id c.node.result.now _ c.node.ensures.tree c.in-App.is in
    let below = subst (AreBelow (length t.types) c.args.id) c.in-App.is c.node.ensures.below in
    on_ok_weaker c.add_all.result
    (parts_of_application t.terms c.args.id c.in-App.f c.in-App.x c.args.pending.now.keys c.add_all.new.set.keys
    root below.0 below.1) c.add_all.ensures

pub returns-in-Abs : goal.returns-in-Abs
returns-in-Abs c =
    let t = c.args.self.now in
    let root = node_tree t.types t.terms c.args.id c.node.result.now _ c.node.ensures.tree c.in-Abs.is in
    let below = subst (AreBelow (length t.types) c.args.id) c.in-Abs.is c.node.ensures.below in
    on_ok_weaker c.add_all-in-Abs.result
    (parts_of_abstraction t.terms c.args.id c.in-Abs.body (variable_of t.types c.in-Abs.field-0)
    c.args.pending.now.keys c.add_all-in-Abs.new.set.keys root below.1) c.add_all-in-Abs.ensures

pub returns-in-Var : goal.returns-in-Var
returns-in-Var c =
    let t = c.args.self.now in
    elim c.in-Var.is [
      | inl v ↦ parts_of_variable t.terms c.args.id c.args.pending.now.keys (variable_of t.types v.0)
          (node_tree t.types t.terms c.args.id c.node.result.now _ c.node.ensures.tree v.1)
      | inr k ↦ parts_of_constant t.terms c.args.id c.args.pending.now.keys k.0 _
          (node_tree t.types t.terms c.args.id c.node.result.now _ c.node.ensures.tree k.2)
    ]
