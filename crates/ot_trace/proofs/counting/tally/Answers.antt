use Rattle.ot_trace.proofs.TallyLemmas.{tally-more, tally-full}
use Rattle.ot_trace.proofs.counting.tally.Goals as goal

pub returns-then-index-lt2-clause-tally : goal.returns-then-index-lt2-clause-tally
returns-then-index-lt2-clause-tally c =
    λ is t. tally-more c.args.counts.now.items is t c.args.id c.requires c.id.inside.0 c.id.inside.0 c.id.view_is
    c.id.view_is c.index.result.now c.index_mut.result.now c.index.ensures c.index_mut.ensures.value
    c.if-index-lt2.true

pub returns-else-index-lt2-clause-tally : goal.returns-else-index-lt2-clause-tally
returns-else-index-lt2-clause-tally c =
    λ is t. tally-full _ is t c.args.id c.requires _ c.id.view_is _ c.index.ensures c.if-index-lt2.false
