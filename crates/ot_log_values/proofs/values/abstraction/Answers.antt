use Rattle.std.specs.Prelude.{IfOk}
use Rattle.std.proofs.Common.{subst}
use Rattle.ot_logic.specs.Names.{Name}
use Rattle.ot_logic.specs.Trees.{Tm, Abs}
use Rattle.ot_log_nodes.specs.Items.{IsTerm}
use Rattle.ot_log_nodes.proofs.ItemLemmas.{term-is, type-stays}
use Rattle.ot_log_values.proofs.values.abstraction.Goals as goal

pub returns-clause-ok : goal.returns-clause-ok
returns-clause-ok c =
    let ts = c.args.nodes.now in
    let us = c.change.new.self in
    let ty = type-stays ts us c.in_ok-closed.ensures.extends c.args.v.ty c.requires.v.1 in
    let closed = term-is us c.in_ok-closed.closed _ c.in_ok-closed.ensures.ok in
    subst (λ (t : Tm Name). IfOk c.abs.result (λ r. IsTerm c.abs.new.self r t)) (λ i. Abs (ty i) (closed i))
    c.abs.ensures.ok
