use Rattle.std.proofs.Common.{◌∙◌, ◌++◌, ap}
use Rattle.ot_program.specs.Samples.{sample_front, sample_back, line_count}
use Rattle.ot_program.specs.Endings.{ran_from}
use Rattle.ot_program.proofs.SampleLemmas.{sample_within, written_text}
use Rattle.ot_program.proofs.report.sampled.Goals as goal

pub returns-in_ok-line-in-Some-clause-ends : goal.returns-in_ok-line-in-Some-clause-ends
returns-in_ok-line-in-Some-clause-ends c =
    let r = ran_from c.args.session.now c.args.exports.now in
    let written = written_text r c.in_ok-text.field-0 c.in-Some.text c.in-Some.is c.in_ok-text.ensures.some in
    let counts = c.counts_of-counts.ensures in
    sample_within c.args.size r c.accepted.result written.0 c.accepted.ensures.status_is
    (c.accepted.ensures.text_is ∙ c.in_ok-line-in-Some.ensures
    ∙ (λ i. sample_front c.args.size ((c.line_count.ensures ∙ ap line_count c.requires.made) i) (counts.theorems i)
    ++ sample_back (counts.assumptions i) (counts.definitions i)
    ((c.line_count-in-Some.ensures ∙ ap line_count (c.deref.ensures.value ∙ written.1)) i)))
