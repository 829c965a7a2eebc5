use Rattle.std.specs.Prelude.{IfOk}
use Rattle.std.proofs.Common.{subst, ◌∙◌}
use Rattle.ot_logic.specs.Names.{Name}
use Rattle.ot_logic.specs.Naming.{names}
use Rattle.ot_logic.specs.Trees.{Tm, App, Abs}
use Rattle.ot_logic.specs.Hol.{fun_ty, equation}
use Rattle.ot_logic.proofs.TableLemmas.{Extends-trans}
use Rattle.ot_log_nodes.specs.Items.{IsTerm}
use Rattle.ot_log_nodes.proofs.ItemLemmas.{has-type, type-is, term-is, type-stays, term-stays, still-type}
use Rattle.ot_log_rules.proofs.Growing.{later-term, later-has}
use Rattle.ot_log_rules.proofs.defining.there_and_back.Goals as goal

pub abs-requires-2-clause-body : goal.abs-requires-2-clause-body
abs-requires-2-clause-body c =
    later-has c.bound.new.self c.abs.new.self
    (Extends-trans (Extends-trans c.in_ok-out.ensures.extends c.in_ok-back.ensures.extends)
    c.in_ok-left.ensures.extends) c.in_ok-place.place _ c.in_ok-place.ensures.ok

pub fun-requires-clause-from : goal.fun-requires-clause-from
fun-requires-clause-from c =
    still-type c.args.nodes.now c.abs-2.new.self
    (Extends-trans
    (Extends-trans
    (Extends-trans (Extends-trans c.in_ok-place.ensures.extends c.in_ok-out.ensures.extends)
    c.in_ok-back.ensures.extends) c.in_ok-left.ensures.extends) c.in_ok-right.ensures.extends) c.args.new
    c.requires.new

pub fun-requires-clause-to : goal.fun-requires-clause-to
fun-requires-clause-to c =
    still-type c.args.nodes.now c.abs-2.new.self
    (Extends-trans
    (Extends-trans
    (Extends-trans (Extends-trans c.in_ok-place.ensures.extends c.in_ok-out.ensures.extends)
    c.in_ok-back.ensures.extends) c.in_ok-left.ensures.extends) c.in_ok-right.ensures.extends) c.args.new
    c.requires.new

pub equation-requires-clause-ty : goal.equation-requires-clause-ty
equation-requires-clause-ty c = has-type c.fun.new.self c.in_ok-ty.ty _ c.in_ok-ty.ensures.ok

pub equation-requires-clause-a : goal.equation-requires-clause-a
equation-requires-clause-a c =
    later-has c.abs.new.self c.fun.new.self (Extends-trans c.in_ok-right.ensures.extends c.in_ok-ty.ensures.extends)
    c.in_ok-left.left _ c.in_ok-left.ensures.ok

pub equation-requires-clause-b : goal.equation-requires-clause-b
equation-requires-clause-b c = later-has c.abs-2.new.self c.fun.new.self c.in_ok-ty.ensures.extends
    c.in_ok-right.right _ c.in_ok-right.ensures.ok

pub returns-clause-extends : goal.returns-clause-extends
returns-clause-extends c =
    (Extends-trans
    (Extends-trans
    (Extends-trans
    (Extends-trans
    (Extends-trans (Extends-trans c.in_ok-place.ensures.extends c.in_ok-out.ensures.extends)
    c.in_ok-back.ensures.extends) c.in_ok-left.ensures.extends) c.in_ok-right.ensures.extends)
    c.in_ok-ty.ensures.extends) c.equation.ensures.extends)

pub returns-clause-ok : goal.returns-clause-ok
returns-clause-ok c =
    let t0 = c.args.nodes.now in
    let t1 = c.bound.new.self in
    let t2 = c.app.new.self in
    let t3 = c.app-2.new.self in
    let t4 = c.abs.new.self in
    let t5 = c.abs-2.new.self in
    let t6 = c.fun.new.self in
    let e1 = c.in_ok-place.ensures.extends in
    let e2 = c.in_ok-out.ensures.extends in
    let e3 = c.in_ok-back.ensures.extends in
    let e4 = c.in_ok-left.ensures.extends in
    let e5 = c.in_ok-right.ensures.extends in
    let e6 = c.in_ok-ty.ensures.extends in
    let to3 = Extends-trans (Extends-trans e1 e2) e3 in
    let rep = term-stays t0 t1 e1 c.args.rep c.requires.rep in
    let abs = term-stays t0 t2 (Extends-trans e1 e2) c.args.abs c.requires.abs in
    let out = term-is t2 c.in_ok-out.out _ c.in_ok-out.ensures.ok
    ∙ (λ i. App (rep i) (term-is t1 c.in_ok-place.place _ c.in_ok-place.ensures.ok i)) in
    let back = term-is t3 c.in_ok-back.back _ c.in_ok-back.ensures.ok ∙ (λ i. App (abs i) (out i)) in
    let first = type-stays t0 t3 to3 c.args.new c.requires.new in
    let left = later-term t4 t6 (Extends-trans e5 e6) c.in_ok-left.left _ c.in_ok-left.ensures.ok
    ∙ (λ i. Abs (first i) (back i)) in
    let second = type-stays t0 t4 (Extends-trans to3 e4) c.args.new c.requires.new in
    let place = later-term t1 t4 (Extends-trans (Extends-trans e2 e3) e4) c.in_ok-place.place _
    c.in_ok-place.ensures.ok in
    let right = later-term t5 t6 e6 c.in_ok-right.right _ c.in_ok-right.ensures.ok
    ∙ (λ i. Abs (second i) (place i)) in
    let whole = type-stays t0 t5 (Extends-trans (Extends-trans to3 e4) e5) c.args.new c.requires.new in
    let ty = type-is t6 c.in_ok-ty.ty _ c.in_ok-ty.ensures.ok ∙ (λ i. fun_ty names (whole i) (whole i)) in
    subst (λ (t : Tm Name). IfOk c.equation.result (λ r. IsTerm c.equation.new.self r t))
    (λ i. equation names (ty i) (left i) (right i)) c.equation.ensures.ok
