use Rattle.std.proofs.lemmas.Result.{on_ok_weaker}
use Rattle.ot_pretty.proofs.Finding.{variable-finds, constant-finds, application-finds, abstraction-finds}
use Rattle.ot_pretty.proofs.search.Search.look_at_term.Goals as goal

pub returns-in-Var : goal.returns-in-Var
returns-in-Var c =
    let inside = rw c.in-Var.is at c.term_node.ensures.inside in
    on_ok_weaker c.add_type.result (variable-finds c.args.kernel.now c.args.self.now c.add_type.new.self c.args.id
    c.in-Var.v.name c.in-Var.v.ty (rw c.in-Var.is at c.term_node.ensures.tree) inside.1) c.add_type.ensures

pub returns-in_ok-add_symbol-in-Const : goal.returns-in_ok-add_symbol-in-Const
returns-in_ok-add_symbol-in-Const c =
    let inside = rw c.in-Const.is at c.term_node.ensures.inside in
    on_ok_weaker c.add_type-in-Const.result
    (constant-finds c.args.kernel.now c.args.self.now c.add_type-in-Const.new.self c.args.id c.add_symbol.new.self
    c.in-Const.name c.in-Const.ty (rw c.in-Const.is at c.term_node.ensures.tree) inside.0 inside.1
    c.in_ok-add_symbol-in-Const.ensures)
    c.add_type-in-Const.ensures

pub returns-in_ok-add_term-in-App : goal.returns-in_ok-add_term-in-App
returns-in_ok-add_term-in-App c =
    let inside = rw c.in-App.is at c.term_node.ensures.inside in
    on_ok_weaker c.add_term-in-App.result
    (application-finds c.args.kernel.now c.args.self.now c.add_term-in-App.new.self c.args.id c.add_term.new.self
    c.in-App.f c.in-App.x (rw c.in-App.is at c.term_node.ensures.tree) inside.0 inside.1
    c.in_ok-add_term-in-App.ensures)
    c.add_term-in-App.ensures

pub returns-in_ok-add_type-in-Abs : goal.returns-in_ok-add_type-in-Abs
returns-in_ok-add_type-in-Abs c =
    let inside = rw c.in-Abs.is at c.term_node.ensures.inside in
    on_ok_weaker c.add_term-in-Abs.result
    (abstraction-finds c.args.kernel.now c.args.self.now c.add_term-in-Abs.new.self c.args.id
    c.add_type-in-Abs.new.self c.in-Abs.v.name c.in-Abs.v.ty c.in-Abs.body
    (rw c.in-Abs.is at c.term_node.ensures.tree) inside.0.1 inside.1
    c.in_ok-add_type-in-Abs.ensures)
    c.add_term-in-Abs.ensures
