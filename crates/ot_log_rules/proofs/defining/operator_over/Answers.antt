use Rattle.std.specs.Prelude.{IfOk}
use Rattle.std.specs.List.{All}
use Rattle.std.proofs.Common.{subst, sym, ap, ◌∙◌}
use Rattle.ot_logic.specs.Names.{Name}
use Rattle.ot_logic.specs.Trees.{Ty, TyOp}
use Rattle.ot_log_nodes.specs.Items.{IsType, HasType, types_at}
use Rattle.ot_log_nodes.proofs.ItemLemmas.{name-stays, still-name}
use Rattle.ot_log_rules.proofs.defining.operator_over.Goals as goal

pub type_op-requires-clause-name : goal.type_op-requires-clause-name
type_op-requires-clause-name c = still-name c.args.nodes.now c.type_vars.new.nodes c.in_ok-args.ensures.extends
    c.args.name c.requires.name

pub type_op-requires-clause-args : goal.type_op-requires-clause-args
type_op-requires-clause-args c =
    subst (All (HasType c.type_vars.new.nodes)) (sym c.deref.ensures.value) c.in_ok-args.ensures.has

pub returns-clause-ok : goal.returns-clause-ok
returns-clause-ok c =
    let us = c.type_vars.new.nodes in
    let name = name-stays c.args.nodes.now us c.in_ok-args.ensures.extends c.args.name c.requires.name in
    let args = ap (types_at us) c.deref.ensures.value ∙ c.in_ok-args.ensures.ok in
    subst (λ (t : Ty Name). IfOk c.type_op.result (λ r. IsType c.type_op.new.self r t)) (λ i. TyOp (name i) (args i))
    c.type_op.ensures.ok
