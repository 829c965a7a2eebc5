use Rattle.std.proofs.Common.{Some, ap, ◌∙◌}
use Rattle.std.proofs.lemmas.Result.{IfOk-weaker}
use Rattle.ot_logic.specs.Trees.{TyOp, MoreTys, NoTys}
use Rattle.ot_log_nodes.specs.Items.{TypeItem, type_at}
use Rattle.ot_log_nodes.proofs.ShapeLemmas.{has-arrow, name-arrow}
use Rattle.ot_log_nodes.proofs.table.Nodes.fun.Goals as goal

pub type_op-requires-clause-name : goal.type_op-requires-clause-name
type_op-requires-clause-name c = has-arrow c.args.self.now c.primitives.ensures.first

pub returns-clause-ok : goal.returns-clause-ok
returns-clause-ok c =
    let ts = c.args.self.now in
    IfOk-weaker c.type_op.result _ _
    (λ r h. h ∙ ap
    (λ n. Some (TypeItem (TyOp n (MoreTys (type_at ts c.args.a) (MoreTys (type_at ts c.args.b) NoTys)))))
    (name-arrow ts c.primitives.ensures.first)) c.type_op.ensures.ok
