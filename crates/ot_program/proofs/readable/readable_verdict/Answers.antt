use Rattle.std.proofs.Common.{[]}
use Rattle.ot_program.specs.Endings.{noted_of, end_at}
use Rattle.ot_program.proofs.NotedLemmas.{end_verdict, stop_verdict}
use Rattle.ot_program.proofs.readable.readable_verdict.Goals as goal

pub returns-in-Ok : goal.returns-in-Ok
returns-in-Ok c = λ packages.
    rw c.in-Ok.is (end_verdict packages c.args.path.now (noted_of c.args.session.now c.in-Ok.noted)
    c.summary.result c.summary.ensures.ends c.summary.ensures.read_back
    (rw c.deref.ensures.value at c.proved.ensures.proved) c.proved.ensures.one_text)

pub returns-in-Err : goal.returns-in-Err
returns-in-Err c = λ packages.
    rw c.in-Err.is (stop_verdict packages c.args.path.now [] c.stopped.result
    (end_at c.args.session.now.kernel c.in-Err.stop) (rw c.kernel.ensures at c.stopped.ensures))
