use Rattle.std.specs.Result.{OnOk}
use Rattle.std.proofs.Common.{◌≡◌, ◌<◌, ℕ, List, ap, subst}
use Rattle.std.specs.List.{All}
use Rattle.std.proofs.lemmas.Result.{on_ok_weaker}
use Rattle.ot_logic.specs.Trees.{Ty}
use Rattle.ot_type.specs.TypeTable.{type_at, ArgsBelow}
use Rattle.ot_type.specs.Subtypes.{IsSubtype}
use Rattle.ot_type.proofs.TypeTableLemmas.{node_op, node_var}
use Rattle.ot_term.specs.Walk.{AddsParts}
use Rattle.ot_term.proofs.Gathering.{arguments_of_var, arguments_of_op}
use Rattle.ot_term.proofs.table.Terms.add_arguments.Goals as goal

pub returns-in-Op : goal.returns-in-Op
returns-in-Op c =
    let tys = c.self.inside.types in
    let types : tys ≡ c.args.self.now.types = ap (λ t. t.types) c.self.view_is in
    let args = c.as_slice.result.now in
    let root = node_op tys c.args.id c.node.result.now c.in-Op.field-0 c.in-Op.args args c.node.ensures.tree
    c.in-Op.is c.as_slice.ensures in
    let below : All (λ k. k < c.args.id) args =
    rw c.as_slice.ensures (subst (ArgsBelow c.args.id) c.in-Op.is c.node.ensures.args) in
    subst (λ (ts : List (Ty ℕ)). OnOk c.add_all.result
    (AddsParts (type_at ts) IsSubtype c.args.id c.args.pending.now.keys c.add_all.new.set.keys)) types
    (on_ok_weaker c.add_all.result (arguments_of_op tys c.args.id c.in-Op.field-0 args c.args.pending.now.keys
    c.add_all.new.set.keys root below) c.add_all.ensures)

pub returns-in-Var : goal.returns-in-Var
returns-in-Var c =
    let tys = c.self.inside.types in
    let types : tys ≡ c.args.self.now.types = ap (λ t. t.types) c.self.view_is in
    subst (λ (ts : List (Ty ℕ)). AddsParts (type_at ts) IsSubtype c.args.id c.args.pending.now.keys
    c.args.pending.now.keys) types
    (arguments_of_var tys c.args.id c.in-Var.field-0 c.args.pending.now.keys
    (node_var tys c.args.id c.node.result.now c.in-Var.field-0 c.node.ensures.tree c.in-Var.is))
