use Rattle.std.proofs.Common.{◌∙◌, arith}
use Rattle.ot_lines.proofs.Trimming.{back_step, back_end}
use Rattle.ot_lines.proofs.piece.trimmed_back.Goals as goal
use Rattle.ot_lines.proofs.piece.trimmed_back.Goals.{then-back-test+else-is_blank, else-back-test}

pub back-preserved : goal.back-preserved
back-preserved c = record {
  in_range = omega arith;
  same = back_step _ _ c.back-test.true c.back.invariant.in_range c.if-is_blank.ensures ∙ c.back.invariant.same;
}

pub returns : goal.returns
returns c =
    back_end _ _ c.back.invariant.in_range (elim c.back-test.branch [
      | then-back-test+else-is_blank w ↦ λ some. w.if-is_blank.ensures
      | else-back-test w ↦ λ some. absurd (omega (arith, some, w.back-test.false))
    ]) ∙ c.back.invariant.same
