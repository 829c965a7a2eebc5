use Rattle.std.proofs.Common.{◌≡◌, ◌<◌, length, vec_len, arith, ◌∙◌, sym}
use Rattle.ot_log_order.proofs.Stepping.{both-end, left-ends, right-ends, empty-is, some-is}
use Rattle.ot_log_order.proofs.comparing.compare.Goals as goal
use Rattle.ot_log_order.proofs.comparing.compare.Goals.{then-is_empty, else-is_empty}

pub returns-in_default : goal.returns-in_default
returns-in_default c =
    let ts = c.args.nodes.now in
    let l = c.pieces.left.items in
    let r = c.pieces.right.items in
    let none : length l ≡ 0 = omega (arith, c.pieces.left.ok.0, c.in_default.ensures.cases.0) in
    let size = c.pieces.right.ok.0 in
    let right = vec_len c.pieces.right in
    let is = c.is_empty in
    elim c.if-is_empty.branch [
      | then-is_empty w ↦
          w.result-is
          ∙ sym (c.pieces.invariant.same ∙ both-end ts l r none
          (omega (arith, size, empty-is right is.result is.ensures w.if-is_empty.true)))
      | else-is_empty w ↦
          w.result-is
          ∙ sym (c.pieces.invariant.same ∙ left-ends ts l r none
          (omega (arith, size, some-is right is.result is.ensures w.if-is_empty.false)))
    ]

pub returns-in_default-pop : goal.returns-in_default-pop
returns-in_default-pop c =
    let some : 0 < length c.pieces.left.items = omega (arith, c.pieces.left.ok.0, c.in-Some.ensures.cases) in
    let none : length c.pieces.right.items ≡ 0 =
    omega (arith, c.pieces.right.ok.0, c.in_default-pop.ensures.cases.0) in
    sym (c.pieces.invariant.same ∙ right-ends c.args.nodes.now c.pieces.left.items c.pieces.right.items some none)
