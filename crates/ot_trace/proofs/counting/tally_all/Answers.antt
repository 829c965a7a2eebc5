use Rattle.std.proofs.Common.{◌++◌, ◌∙◌, subst}
use Rattle.std.proofs.lemmas.List.{take_all}
use Rattle.ot_trace.specs.Tally.{IsTallied}
use Rattle.ot_trace.proofs.TallyLemmas.{tally-next}
use Rattle.ot_trace.proofs.counting.tally_all.Goals as goal

pub loop-id-preserved : goal.loop-id-preserved
loop-id-preserved c = record {
  length = c.tally.ensures.length ∙ c.loop-id.invariant.length;
  tally = λ is t. tally-next c.args.ids.now c.loop-id.id-index _ is c.id-item.result c.loop-id-test.true c.id-item.is
      (c.tally.ensures.tally _ (c.loop-id.invariant.tally is t));
}

pub returns-clause-tally : goal.returns-clause-tally
returns-clause-tally c = λ is t. subst (λ z. IsTallied (is ++ z) c.loop-id.counts.items)
    (take_all c.loop-id.id-index c.args.ids.now c.loop-id-test.false) (c.loop-id.invariant.tally is t)
