use Rattle.std.specs.Prelude.{IfOk}
use Rattle.std.proofs.Common.{subst}
use Rattle.ot_logic.specs.Names.{Name}
use Rattle.ot_logic.specs.Trees.{Tm, Con}
use Rattle.ot_log_nodes.specs.Items.{IsTerm}
use Rattle.ot_log_nodes.proofs.ItemLemmas.{name-stays, type-is}
use Rattle.ot_log_rules.proofs.defining.constant_between.Goals as goal

pub returns-clause-ok : goal.returns-clause-ok
returns-clause-ok c =
    let us = c.fun.new.self in
    let name = name-stays c.args.nodes.now us c.in_ok-ty.ensures.extends c.args.name c.requires.name in
    let ty = type-is us c.in_ok-ty.ty _ c.in_ok-ty.ensures.ok in
    subst (λ (t : Tm Name). IfOk c.constant.result (λ r. IsTerm c.constant.new.self r t)) (λ i. Con (name i) (ty i))
    c.constant.ensures.ok
