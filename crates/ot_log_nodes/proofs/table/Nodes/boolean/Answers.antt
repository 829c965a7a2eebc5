use Rattle.std.proofs.Common.{Some, ap, ◌∙◌}
use Rattle.std.proofs.lemmas.Result.{IfOk-weaker}
use Rattle.ot_logic.specs.Trees.{TyOp, NoTys}
use Rattle.ot_log_nodes.specs.Items.{TypeItem}
use Rattle.ot_log_nodes.proofs.ShapeLemmas.{has-bool, name-bool}
use Rattle.ot_log_nodes.proofs.table.Nodes.boolean.Goals as goal

pub type_op-requires-clause-name : goal.type_op-requires-clause-name
type_op-requires-clause-name c = has-bool c.args.self.now c.primitives.ensures.first

pub returns-clause-ok : goal.returns-clause-ok
returns-clause-ok c =
    IfOk-weaker c.type_op.result _ _
    (λ r h. h ∙ ap (λ n. Some (TypeItem (TyOp n NoTys))) (name-bool c.args.self.now c.primitives.ensures.first))
    c.type_op.ensures.ok
