use Rattle.std.proofs.Common.{subst, IfOk}
use Rattle.ot_logic.specs.Naming.{names}
use Rattle.ot_logic.specs.Trees.{Con}
use Rattle.ot_logic.specs.Hol.{bool_ty}
use Rattle.ot_logic.specs.PlainTrees.{type_of_tree, term_of_tree}
use Rattle.ot_parse.specs.Meant.{relation_of}
use Rattle.ot_parse.specs.Values.{IsAppliedAs}
use Rattle.ot_parse.proofs.Made.{takes-first}
use Rattle.ot_parse.proofs.values.half_joined.Goals as goal

pub returns : goal.returns
returns c = λ l hx px.
    let n = c.args.name.now in
    let r = c.in_ok-connective.connective in
    let hr = c.in_ok-connective.ensures.kept l in
    let er = c.in_ok-connective.ensures.term in
    let a = term_of_tree c.args.left.term in
    let p = type_of_tree c.in_ok-ty.ty in
    subst (λ t. IfOk c.applied_as.result (IsAppliedAs l (Con n (relation_of (bool_ty names))) a t)) c.in_ok-ty.ensures
    (subst (λ f. IfOk c.applied_as.result (IsAppliedAs l f a p)) er
    (c.applied_as.ensures l hr hx (takes-first l n r c.args.left hr px er p c.in_ok-ty.ensures)))
