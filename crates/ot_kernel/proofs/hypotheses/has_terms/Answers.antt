use Rattle.std.proofs.Common.{◌+◌, drop, ap, ◌∙◌}
use Rattle.std.specs.Prelude.{◌&&◌}
use Rattle.ot_logic.specs.Hol.{all_in}
use Rattle.ot_logic.specs.Naming.{numbers}
use Rattle.ot_kernel.specs.Numbered.{tms_at}
use Rattle.ot_kernel.proofs.Comparing.{all_next}
use Rattle.ot_kernel.proofs.hypotheses.has_terms.Goals as goal

pub loop-t-preserved : goal.loop-t-preserved
loop-t-preserved c =
    let us = tms_at c.args.terms.now.terms c.args.among.now in
    let rest = all_in numbers (tms_at c.args.terms.now.terms (drop (c.loop-t.t-index + 1) c.args.ts.now)) us in
    record {
      tested = c.loop-t.invariant.tested ∙ all_next c.args.terms.now.terms us c.args.ts.now c.loop-t.t-index
          c.t-item.result c.is_among.result c.loop-t-test.true c.t-item.is c.is_among.ensures
          ∙ ap (λ b. b && rest) c.if-not-is_among.false;
      classes = c.loop-t.invariant.classes;
    }
