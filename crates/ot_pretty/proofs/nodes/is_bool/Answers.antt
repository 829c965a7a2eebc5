use Rattle.std.proofs.Common.{◌∙◌, arith}
use Rattle.std.proofs.lemmas.Bool.Decides.{nat_tests}
use Rattle.ot_kernel.specs.State.{type_at}
use Rattle.ot_pretty.proofs.Relations.{bool-some, bool-none, no-variable}
use Rattle.ot_pretty.proofs.nodes.is_bool.Goals as goal

pub returns-then-not-is_empty : goal.returns-then-not-is_empty
returns-then-not-is_empty c =
    bool-none c.args.kernel.now (type_at c.args.kernel.now c.args.ty) c.in-Op.name c.in-Op.args.items
    (rw c.in-Op.is at c.type_node.ensures.tree)
    (grind (arith, nat_tests, c.is_empty.ensures, c.if-not-is_empty.true))

pub returns-else-not-is_empty : goal.returns-else-not-is_empty
returns-else-not-is_empty c =
    c.is_bool_name.ensures
    ∙ bool-some c.args.kernel.now (type_at c.args.kernel.now c.args.ty) c.in-Op.name c.in-Op.args.items
    (rw c.in-Op.is at c.type_node.ensures.tree)
    (grind (arith, nat_tests, c.is_empty.ensures, c.if-not-is_empty.false))

pub returns-in-Var : goal.returns-in-Var
returns-in-Var c = no-variable (type_at c.args.kernel.now c.args.ty) _ (rw c.in-Var.is at c.type_node.ensures.tree)
