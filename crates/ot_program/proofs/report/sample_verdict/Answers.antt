use Rattle.ot_program.specs.Endings.{ran_from}
use Rattle.ot_program.proofs.SampleLemmas.{sample_ended}
use Rattle.ot_program.proofs.report.sample_verdict.Goals as goal

pub returns-in-Ok : goal.returns-in-Ok
returns-in-Ok c =
    let same = c.deref-in-Ok.ensures.value in
    let first = c.deref.ensures.value in
    rw c.in-Ok.is (sample_ended c.args.size (ran_from c.args.session.now c.in-Ok.exports.items)
    c.sampled.result (rw same at c.sampled.ensures.ends) (rw same at c.sampled.ensures.rewritten)
    (rw first at c.proved.ensures.proved) c.proved.ensures.one_text)
