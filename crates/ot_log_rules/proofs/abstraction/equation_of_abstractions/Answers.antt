use Rattle.std.specs.Prelude.{IfOk}
use Rattle.std.proofs.Common.{subst, ◌∙◌}
use Rattle.ot_logic.specs.Names.{Name}
use Rattle.ot_logic.specs.Naming.{names}
use Rattle.ot_logic.specs.Trees.{Tm, Abs}
use Rattle.ot_logic.specs.Hol.{fun_ty, close, equation}
use Rattle.ot_logic.proofs.TableLemmas.{Extends-trans}
use Rattle.ot_log_nodes.specs.Items.{IsTerm}
use Rattle.ot_log_nodes.proofs.ItemLemmas.{has-type, type-is, type-stays, term-stays, still-type, still-term}
use Rattle.ot_log_nodes.proofs.MapLemmas.{variable-stays}
use Rattle.ot_log_rules.proofs.Growing.{later-term, later-has}
use Rattle.ot_log_rules.proofs.abstraction.equation_of_abstractions.Goals as goal

pub abstracted-requires-2-clause-id : goal.abstracted-requires-2-clause-id
abstracted-requires-2-clause-id c = still-term c.args.nodes.now c.abstracted.new.nodes c.in_ok-left.ensures.extends
    c.args.sides.right c.requires.sides.right

pub fun-requires-clause-to : goal.fun-requires-clause-to
fun-requires-clause-to c = still-type c.args.nodes.now c.abstracted-2.new.nodes
    (Extends-trans c.in_ok-left.ensures.extends c.in_ok-right.ensures.extends) c.args.sides.ty c.requires.sides.ty

pub equation-requires-clause-ty : goal.equation-requires-clause-ty
equation-requires-clause-ty c = has-type c.fun.new.self c.in_ok-ty.ty _ c.in_ok-ty.ensures.ok

pub equation-requires-clause-a : goal.equation-requires-clause-a
equation-requires-clause-a c =
    later-has c.abstracted.new.nodes c.fun.new.self
    (Extends-trans c.in_ok-right.ensures.extends c.in_ok-ty.ensures.extends) c.in_ok-left.left _
    c.in_ok-left.ensures.ok

pub equation-requires-clause-b : goal.equation-requires-clause-b
equation-requires-clause-b c = later-has c.abstracted-2.new.nodes c.fun.new.self c.in_ok-ty.ensures.extends
    c.in_ok-right.right _ c.in_ok-right.ensures.ok

pub returns-clause-ok : goal.returns-clause-ok
returns-clause-ok c =
    let ts = c.args.nodes.now in
    let us = c.abstracted.new.nodes in
    let vs = c.abstracted-2.new.nodes in
    let ws = c.fun.new.self in
    let e = c.in_ok-left.ensures.extends in
    let f = c.in_ok-right.ensures.extends in
    let g = c.in_ok-ty.ensures.extends in
    let v = c.args.v.now in
    let left = later-term us ws (Extends-trans f g) c.in_ok-left.left _ c.in_ok-left.ensures.ok in
    let variable = variable-stays ts us e v c.requires.v in
    let side = term-stays ts us e c.args.sides.right c.requires.sides.right in
    let right = later-term vs ws g c.in_ok-right.right _ c.in_ok-right.ensures.ok
    ∙ (λ i. Abs (variable i).ty (close names (variable i) (side i))) in
    let from = type-stays ts vs (Extends-trans e f) v.ty c.requires.v.1 in
    let to = type-stays ts vs (Extends-trans e f) c.args.sides.ty c.requires.sides.ty in
    let ty = type-is ws c.in_ok-ty.ty _ c.in_ok-ty.ensures.ok ∙ (λ i. fun_ty names (from i) (to i)) in
    subst (λ (t : Tm Name). IfOk c.equation.result (λ r. IsTerm c.equation.new.self r t))
    (λ i. equation names (ty i) (left i) (right i)) c.equation.ensures.ok
