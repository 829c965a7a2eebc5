use Rattle.std.specs.Prelude.{IfOk}
use Rattle.std.proofs.Common.{subst, ◌∙◌}
use Rattle.ot_logic.specs.Names.{Name}
use Rattle.ot_logic.specs.Naming.{names}
use Rattle.ot_logic.specs.Trees.{Tm, App, Abs}
use Rattle.ot_logic.specs.Hol.{equation}
use Rattle.ot_logic.proofs.TableLemmas.{Extends-trans}
use Rattle.ot_log_nodes.specs.Items.{IsTerm}
use Rattle.ot_log_nodes.proofs.ItemLemmas.{has-term, term-is, type-stays, term-stays, still-type}
use Rattle.ot_log_rules.proofs.Growing.{later-term}
use Rattle.ot_log_rules.proofs.defining.taken_back.Goals as goal

pub abs-requires-clause-ty : goal.abs-requires-clause-ty
abs-requires-clause-ty c =
    still-type c.args.nodes.now c.equation.new.self
    (Extends-trans (Extends-trans (Extends-trans c.in_ok-place.ensures.extends c.in_ok-inside.ensures.extends)
    c.in_ok-again.ensures.extends) c.in_ok-same.ensures.extends) c.args.old c.requires.old

pub abs-requires-clause-body : goal.abs-requires-clause-body
abs-requires-clause-body c = has-term c.equation.new.self c.in_ok-same.same _ c.in_ok-same.ensures.ok

pub returns-clause-ok : goal.returns-clause-ok
returns-clause-ok c =
    let ts = c.args.nodes.now in
    let us = c.bound.new.self in
    let vs = c.app.new.self in
    let ws = c.app-2.new.self in
    let xs = c.equation.new.self in
    let e = c.in_ok-place.ensures.extends in
    let f = c.in_ok-inside.ensures.extends in
    let g = c.in_ok-again.ensures.extends in
    let h = c.in_ok-same.ensures.extends in
    let to = term-stays ts us e c.args.abs c.requires.abs in
    let from = term-stays ts vs (Extends-trans e f) c.args.rep c.requires.rep in
    let inside = term-is vs c.in_ok-inside.inside _ c.in_ok-inside.ensures.ok
    ∙ (λ i. App (to i) (term-is us c.in_ok-place.place _ c.in_ok-place.ensures.ok i)) in
    let again = term-is ws c.in_ok-again.again _ c.in_ok-again.ensures.ok ∙ (λ i. App (from i) (inside i)) in
    let place = later-term us ws (Extends-trans f g) c.in_ok-place.place _ c.in_ok-place.ensures.ok in
    let old = type-stays ts ws (Extends-trans (Extends-trans e f) g) c.args.old c.requires.old in
    let same = term-is xs c.in_ok-same.same _ c.in_ok-same.ensures.ok
    ∙ (λ i. equation names (old i) (again i) (place i)) in
    let ty = type-stays ts xs (Extends-trans (Extends-trans (Extends-trans e f) g) h) c.args.old c.requires.old in
    subst (λ (t : Tm Name). IfOk c.abs.result (λ r. IsTerm c.abs.new.self r t)) (λ i. Abs (ty i) (same i))
    c.abs.ensures.ok
