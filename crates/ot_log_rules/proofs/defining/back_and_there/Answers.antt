use Rattle.std.specs.Prelude.{IfOk}
use Rattle.std.proofs.Common.{subst, ◌∙◌}
use Rattle.ot_logic.specs.Names.{Name}
use Rattle.ot_logic.specs.Naming.{names}
use Rattle.ot_logic.specs.Trees.{Tm, App, Abs}
use Rattle.ot_logic.specs.Hol.{fun_ty, equation}
use Rattle.ot_logic.proofs.TableLemmas.{Extends-trans}
use Rattle.ot_log_nodes.specs.Items.{IsTerm}
use Rattle.ot_log_nodes.proofs.ItemLemmas.{has-type, has-term, type-is, term-is}
use Rattle.ot_log_nodes.proofs.ItemLemmas.{type-stays, term-stays, still-type, still-term}
use Rattle.ot_log_rules.proofs.Growing.{later-term, later-has}
use Rattle.ot_log_rules.proofs.defining.back_and_there.Goals as goal

pub app-requires-clause-f : goal.app-requires-clause-f
app-requires-clause-f c = still-term c.args.nodes.now c.bound.new.self
    (Extends-trans c.in_ok-left.ensures.extends c.in_ok-place.ensures.extends) c.args.predicate c.requires.predicate

pub app-requires-clause-x : goal.app-requires-clause-x
app-requires-clause-x c = has-term c.bound.new.self c.in_ok-place.place _ c.in_ok-place.ensures.ok

pub abs-requires-clause-ty : goal.abs-requires-clause-ty
abs-requires-clause-ty c =
    still-type c.args.nodes.now c.app.new.self
    (Extends-trans (Extends-trans c.in_ok-left.ensures.extends c.in_ok-place.ensures.extends)
    c.in_ok-holds.ensures.extends) c.args.old c.requires.old

pub abs-requires-clause-body : goal.abs-requires-clause-body
abs-requires-clause-body c = has-term c.app.new.self c.in_ok-holds.holds _ c.in_ok-holds.ensures.ok

pub fun-requires-clause-from : goal.fun-requires-clause-from
fun-requires-clause-from c =
    still-type c.args.nodes.now c.boolean.new.self
    (Extends-trans
    (Extends-trans
    (Extends-trans (Extends-trans c.in_ok-left.ensures.extends c.in_ok-place.ensures.extends)
    c.in_ok-holds.ensures.extends) c.in_ok-right.ensures.extends) c.in_ok-boolean.ensures.extends) c.args.old
    c.requires.old

pub fun-requires-clause-to : goal.fun-requires-clause-to
fun-requires-clause-to c = has-type c.boolean.new.self c.in_ok-boolean.boolean _ c.in_ok-boolean.ensures.ok

pub equation-requires-clause-ty : goal.equation-requires-clause-ty
equation-requires-clause-ty c = has-type c.fun.new.self c.in_ok-ty.ty _ c.in_ok-ty.ensures.ok

pub equation-requires-clause-a : goal.equation-requires-clause-a
equation-requires-clause-a c =
    later-has c.taken_back.new.nodes c.fun.new.self
    (Extends-trans
    (Extends-trans
    (Extends-trans (Extends-trans c.in_ok-place.ensures.extends c.in_ok-holds.ensures.extends)
    c.in_ok-right.ensures.extends) c.in_ok-boolean.ensures.extends) c.in_ok-ty.ensures.extends) c.in_ok-left.left
    _ c.in_ok-left.ensures.ok

pub equation-requires-clause-b : goal.equation-requires-clause-b
equation-requires-clause-b c =
    later-has c.abs.new.self c.fun.new.self (Extends-trans c.in_ok-boolean.ensures.extends c.in_ok-ty.ensures.extends)
    c.in_ok-right.right _ c.in_ok-right.ensures.ok

pub returns-clause-extends : goal.returns-clause-extends
returns-clause-extends c =
    (Extends-trans
    (Extends-trans
    (Extends-trans
    (Extends-trans
    (Extends-trans (Extends-trans c.in_ok-left.ensures.extends c.in_ok-place.ensures.extends)
    c.in_ok-holds.ensures.extends) c.in_ok-right.ensures.extends) c.in_ok-boolean.ensures.extends)
    c.in_ok-ty.ensures.extends) c.equation.ensures.extends)

pub returns-clause-ok : goal.returns-clause-ok
returns-clause-ok c =
    let t0 = c.args.nodes.now in
    let t1 = c.taken_back.new.nodes in
    let t2 = c.bound.new.self in
    let t3 = c.app.new.self in
    let t4 = c.abs.new.self in
    let t5 = c.boolean.new.self in
    let t6 = c.fun.new.self in
    let e1 = c.in_ok-left.ensures.extends in
    let e2 = c.in_ok-place.ensures.extends in
    let e3 = c.in_ok-holds.ensures.extends in
    let e4 = c.in_ok-right.ensures.extends in
    let e5 = c.in_ok-boolean.ensures.extends in
    let e6 = c.in_ok-ty.ensures.extends in
    let to3 = Extends-trans (Extends-trans e1 e2) e3 in
    let to5 = Extends-trans (Extends-trans to3 e4) e5 in
    let left = later-term t1 t6 (Extends-trans (Extends-trans (Extends-trans (Extends-trans e2 e3) e4) e5) e6)
    c.in_ok-left.left _ c.in_ok-left.ensures.ok in
    let predicate = term-stays t0 t2 (Extends-trans e1 e2) c.args.predicate c.requires.predicate in
    let place = term-is t2 c.in_ok-place.place _ c.in_ok-place.ensures.ok in
    let holds = term-is t3 c.in_ok-holds.holds _ c.in_ok-holds.ensures.ok ∙ (λ i. App (predicate i) (place i)) in
    let old = type-stays t0 t3 to3 c.args.old c.requires.old in
    let right = later-term t4 t6 (Extends-trans e5 e6) c.in_ok-right.right _ c.in_ok-right.ensures.ok
    ∙ (λ i. Abs (old i) (holds i)) in
    let from = type-stays t0 t5 to5 c.args.old c.requires.old in
    let truth = type-is t5 c.in_ok-boolean.boolean _ c.in_ok-boolean.ensures.ok in
    let ty = type-is t6 c.in_ok-ty.ty _ c.in_ok-ty.ensures.ok ∙ (λ i. fun_ty names (from i) (truth i)) in
    subst (λ (t : Tm Name). IfOk c.equation.result (λ r. IsTerm c.equation.new.self r t))
    (λ i. equation names (ty i) (left i) (right i)) c.equation.ensures.ok
