use Rattle.std.proofs.Common.{◌≡◌, ◌∙◌, sym, ap, arith, suc, min, max, map}
use Rattle.ot_logic.specs.Naming.{names}
use Rattle.ot_logic.specs.Hol.{depth_ty}
use Rattle.ot_logic.specs.Trees.{TyOp}
use Rattle.ot_logic.specs.PlainTrees.{type_of_tree, tys_of}
use Rattle.ot_logic.proofs.PlainTrees.{type_Op}
use Rattle.ot_parse.proofs.ValueLaws.{depth-more, depth-whole}
use Rattle.ot_parse.proofs.measured.+type_depth.Goals as goal
use Rattle.ot_parse.proofs.measured.+type_depth.Goals.{then-deepest-depth, else-deepest-depth}

pub loop-arg-preserved : goal.loop-arg-preserved
loop-arg-preserved t c =
    let d = c.type_depth-depth.ensures in
    let k = c.if-limit-eq0.false in
    let e : c.if-deepest-depth.deepest ≡ max c.loop-arg.deepest c.type_depth-depth.result =
    elim c.if-deepest-depth.branch [
      | then-deepest-depth w ↦ omega (arith, w.deepest-is, w.if-deepest-depth.true)
      | else-deepest-depth w ↦ omega (arith, w.deepest-is, w.if-deepest-depth.false)
    ] in
    depth-more c.deref-arg-items.result.now c.loop-arg.arg-index c.arg-item.result c.loop-arg.deepest
    c.if-deepest-depth.deepest c.args.limit c.loop-arg.invariant (omega arith) c.arg-item.is
    (omega (arith, d, e, k))

pub returns-after-loop-arg : goal.returns-after-loop-arg
returns-after-loop-arg t c =
    depth-whole c.in-Op.field-0 c.deref-arg-items.result.now c.loop-arg.arg-index c.loop-arg.deepest c.args.limit
    c.loop-arg.invariant (omega arith)
    ∙ ap (λ u. min (depth_ty names u) (suc c.args.limit))
    (ap (λ xs. TyOp c.in-Op.field-0 (tys_of (map type_of_tree xs))) c.deref-arg-items.ensures.value
    ∙ sym (ap type_of_tree c.in-Op.is ∙ type_Op c.in-Op.field-0 c.in-Op.args))
