use Rattle.std.specs.Prelude.{IfOk}
use Rattle.std.proofs.Common.{subst, ◌∙◌}
use Rattle.ot_logic.specs.Names.{Name}
use Rattle.ot_logic.specs.Naming.{names}
use Rattle.ot_logic.specs.Trees.{Tm, App}
use Rattle.ot_logic.specs.Hol.{equation}
use Rattle.ot_logic.proofs.TableLemmas.{Extends-trans}
use Rattle.ot_log_nodes.specs.Items.{IsTerm}
use Rattle.ot_log_nodes.proofs.ItemLemmas.{term-is, type-stays, term-stays}
use Rattle.ot_log_rules.proofs.Growing.{later-term}
use Rattle.ot_log_rules.proofs.rules.equation_of_applications.Goals as goal

pub returns-clause-ok : goal.returns-clause-ok
returns-clause-ok c =
    let ts = c.args.nodes.now in
    let us = c.app.new.self in
    let vs = c.app-2.new.self in
    let e = c.in_ok-left.ensures.extends in
    let f = c.in_ok-right.ensures.extends in
    let left = later-term us vs f c.in_ok-left.left _ c.in_ok-left.ensures.ok in
    let function = term-stays ts us e c.args.functions.right c.requires.functions.right in
    let argument = term-stays ts us e c.args.arguments.right c.requires.arguments.right in
    let right = term-is vs c.in_ok-right.right _ c.in_ok-right.ensures.ok ∙ (λ i. App (function i) (argument i)) in
    let ty = type-stays ts vs (Extends-trans e f) c.args.ty c.requires.ty in
    subst (λ (t : Tm Name). IfOk c.equation.result (λ r. IsTerm c.equation.new.self r t))
    (λ i. equation names (ty i) (left i) (right i)) c.equation.ensures.ok
