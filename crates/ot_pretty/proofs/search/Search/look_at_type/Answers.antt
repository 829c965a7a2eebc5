use Rattle.std.specs.List.{All}
use Rattle.std.proofs.Common.{◌<◌, ap, sym, subst, ◌∙◌}
use Rattle.std.proofs.lemmas.Result.{on_ok_weaker}
use Rattle.ot_logic.specs.Trees.{TyOp}
use Rattle.ot_kernel.specs.State.{name_at, types_at}
use Rattle.ot_pretty.proofs.Finding.{nothing-finds, operator-finds}
use Rattle.ot_pretty.proofs.search.Search.look_at_type.Goals as goal

pub returns-in-Var : goal.returns-in-Var
returns-in-Var c =
    nothing-finds c.args.kernel.now c.args.self.now c.args.id _ (rw c.in-Var.is at c.type_node.ensures.tree)

pub returns-in_ok-add_symbol-in-Op : goal.returns-in_ok-add_symbol-in-Op
returns-in_ok-add_symbol-in-Op c =
    let s = c.args.kernel.now in
    let root = rw c.in-Op.is at c.type_node.ensures.tree in
    let inside = rw c.in-Op.is at c.type_node.ensures.inside in
    on_ok_weaker c.add_types.result
    (operator-finds s c.args.self.now c.add_types.new.self c.args.id c.add_symbol.new.self c.in-Op.name
    c.as_slice.result.now
    (root ∙ ap (λ is. TyOp (name_at s c.in-Op.name) (types_at s is)) (sym c.as_slice.ensures)) inside.0
    (subst (All (λ k. k < c.args.id)) (sym c.as_slice.ensures) inside.1) c.in_ok-add_symbol-in-Op.ensures)
    c.add_types.ensures
