use Rattle.std.proofs.Common.{ap, ◌∙◌, arith}
use Rattle.ot_log_values.specs.Reading.{with_first}
use Rattle.ot_log_values.proofs.Mapping.{firsts-next}
use Rattle.ot_log_values.proofs.maps.firsts.Goals as goal

pub loop-pair-preserved : goal.loop-pair-preserved
loop-pair-preserved g c =
    let same = g.K.PartialEq.eq in
    record {
      found = c.in_ok-add_first.ensures.found
          ∙ ap (λ ps. with_first same ps c.pair-item.result) c.loop-pair.invariant.found
          ∙ firsts-next same c.args.pairs.now c.loop-pair.pair-index c.pair-item.result (omega arith) c.pair-item.is;
      seen = c.in_ok-add_first.ensures.seen;
    }
