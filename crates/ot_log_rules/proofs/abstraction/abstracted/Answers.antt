use Rattle.std.specs.Prelude.{IfOk}
use Rattle.std.proofs.Common.{subst}
use Rattle.ot_logic.specs.Names.{Name}
use Rattle.ot_logic.specs.Trees.{Tm, Abs}
use Rattle.ot_log_nodes.specs.Items.{IsTerm}
use Rattle.ot_log_nodes.specs.declared.table.change.Change.TheVariants as change
use Rattle.ot_log_nodes.proofs.ItemLemmas.{has-term, term-is, type-stays}
use Rattle.ot_log_nodes.proofs.MapLemmas.{still-variable}
use Rattle.ot_log_nodes.proofs.MapLemmas.{done-now}
use Rattle.ot_log_rules.proofs.abstraction.abstracted.Goals as goal
use Rattle.ot_logic.proofs.Results.{on_ok}

pub abs-requires-clause-body : goal.abs-requires-clause-body
abs-requires-clause-body c = has-term c.closed.new.nodes c.in_ok-body.body _ c.in_ok-body.ensures.ok

pub returns-clause-ok : goal.returns-clause-ok
returns-clause-ok c =
    let ts = c.args.nodes.now in
    let us = c.closed.new.nodes in
    let ty = type-stays ts us c.in_ok-body.ensures.extends c.args.v.now.ty c.requires.v.1 in
    let body = term-is us c.in_ok-body.body _ c.in_ok-body.ensures.ok in
    subst (λ (t : Tm Name). IfOk c.abs.result (λ r. IsTerm c.abs.new.self r t)) (λ i. Abs (ty i) (body i))
    c.abs.ensures.ok

pub returns-clause-done : goal.returns-clause-done
returns-clause-done c =
    on_ok c.abs.result (done-now c.closed.new.nodes c.abs.new.self c.abs.ensures.extends (change.Close c.args.v.now)
    c.closed.new.done c.in_ok-body.ensures.v c.in_ok-body.ensures.done)

pub returns-clause-v : goal.returns-clause-v
returns-clause-v c =
    on_ok c.abs.result
    (still-variable c.closed.new.nodes c.abs.new.self c.abs.ensures.extends c.args.v.now c.in_ok-body.ensures.v)
