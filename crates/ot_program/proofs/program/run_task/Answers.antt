use Rattle.std.proofs.Common.{ℕ, List}
use Rattle.std.proofs.lemmas.Result.{err_from_is_err_and}
use Rattle.ot_io.specs.Causes.{CountRose}
use Rattle.ot_program.specs.Tasks.{RunSample, MakeSample, CheckLog}
use Rattle.ot_program.specs.Answer.{FileFailed}
use Rattle.ot_program.specs.CheckLog.{log_end_of}
use Rattle.ot_program.proofs.Options.{ok_always}
use Rattle.ot_program.proofs.Worlds.{is_told, world_map, world_none}
use Rattle.ot_program.proofs.VerdictLemmas.{task_verdict, last_path, unfailing}
use Rattle.ot_program.proofs.program.run_task.Goals as goal

-- ---- an input

pub returns-in_ok-session-in-RunInput-clause-verdict : goal.returns-in_ok-session-in-RunInput-clause-verdict
returns-in_ok-session-in-RunInput-clause-verdict g c = rw c.in-RunInput.is c.job_in.ensures.verdict

pub returns-in_ok-session-in-RunInput-clause-at : goal.returns-in_ok-session-in-RunInput-clause-at
returns-in_ok-session-in-RunInput-clause-at g c = rw c.in-RunInput.is c.job_in.ensures.at

pub returns-in_ok-session-in-RunInput-clause-other : goal.returns-in_ok-session-in-RunInput-clause-other
returns-in_ok-session-in-RunInput-clause-other g c = rw c.in-RunInput.is c.job_in.ensures.other

-- ---- a log

pub returns-in-CheckLog-clause-verdict : goal.returns-in-CheckLog-clause-verdict
returns-in-CheckLog-clause-verdict g c =
    let path = c.in-CheckLog.path.now in
    let I : Type 0 =
    CountRose (g.S.Source.faults c.args.input.now) (g.S.Source.faults c.check_log-checked.new.input) in
    let F : List ℕ → Type 0 = FileFailed (g.F.Source.at c.check_log-checked.new.files)
    (g.F.Source.faults c.args.files.now) (g.F.Source.faults c.check_log-checked.new.files) in
    let Q : Type 0 =
    CountRose (g.F.Source.misses c.args.files.now) (g.F.Source.misses c.check_log-checked.new.files) in
    rw c.in-CheckLog.is (λ told may. world_map told (g.S.Source.left c.args.input.now)
    (g.S.Source.left c.check_log-checked.new.input) _ _
    (λ May ended. task_verdict I F Q (CheckLog path) May (log_end_of path c.check_log-checked.result)
    c.log_verdict.result c.log_verdict.ensures ended) (c.check_log-checked.ensures.checked told may))

pub returns-in-CheckLog-clause-at : goal.returns-in-CheckLog-clause-at
returns-in-CheckLog-clause-at g c =
    let path = c.in-CheckLog.path.now in
    rw c.in-CheckLog.is (last_path _ (CheckLog path) (log_end_of path c.check_log-checked.result)
    c.log_verdict.result c.log_verdict.ensures c.check_log-checked.ensures.at)

pub returns-in-CheckLog-clause-other : goal.returns-in-CheckLog-clause-other
returns-in-CheckLog-clause-other g c = rw c.in-CheckLog.is c.check_log-checked.ensures.other

-- ---- a run that is shown in readable form

pub returns-in_ok-session-in-ShowReadable-clause-verdict : goal.returns-in_ok-session-in-ShowReadable-clause-verdict
returns-in_ok-session-in-ShowReadable-clause-verdict g c = rw c.in-ShowReadable.is c.readable_in.ensures.verdict

pub returns-in_ok-session-in-ShowReadable-clause-at : goal.returns-in_ok-session-in-ShowReadable-clause-at
returns-in_ok-session-in-ShowReadable-clause-at g c = rw c.in-ShowReadable.is c.readable_in.ensures.at

pub returns-in_ok-session-in-ShowReadable-clause-other : goal.returns-in_ok-session-in-ShowReadable-clause-other
returns-in_ok-session-in-ShowReadable-clause-other g c = rw c.in-ShowReadable.is c.readable_in.ensures.other

-- ---- a sample, for which nothing is read

pub returns-in-RunSample-clause-verdict : goal.returns-in-RunSample-clause-verdict
returns-in-RunSample-clause-verdict g c =
    let i = g.S.Source.faults c.args.input.now in
    let f = g.F.Source.faults c.args.files.now in
    let m = g.F.Source.misses c.args.files.now in
    rw c.in-RunSample.is (λ told may. world_none told (g.S.Source.left c.args.input.now) _
    (λ May. unfailing (CountRose i i) (FileFailed (g.F.Source.at c.args.files.now) f f) (CountRose m m)
    (RunSample c.in-RunSample.size) May c.run_sample.result (λ failed none. none.1) c.run_sample.ensures))

pub returns-in-RunSample-clause-at : goal.returns-in-RunSample-clause-at
returns-in-RunSample-clause-at g c = rw c.in-RunSample.is (ok_always _ c.run_sample.result tt)

pub returns-in-MakeSample-clause-verdict : goal.returns-in-MakeSample-clause-verdict
returns-in-MakeSample-clause-verdict g c =
    let i = g.S.Source.faults c.args.input.now in
    let f = g.F.Source.faults c.args.files.now in
    let m = g.F.Source.misses c.args.files.now in
    rw c.in-MakeSample.is (λ told may. world_none told (g.S.Source.left c.args.input.now) _
    (λ May. unfailing (CountRose i i) (FileFailed (g.F.Source.at c.args.files.now) f f) (CountRose m m)
    (MakeSample c.in-MakeSample.size) May c.make_sample.result (λ failed none. none.1) c.make_sample.ensures))

pub returns-in-MakeSample-clause-at : goal.returns-in-MakeSample-clause-at
returns-in-MakeSample-clause-at g c = rw c.in-MakeSample.is (ok_always _ c.make_sample.result tt)

-- ---- the lines of a text, which is always a file

pub returns-in-ReadLines-clause-verdict : goal.returns-in-ReadLines-clause-verdict
returns-in-ReadLines-clause-verdict g c =
    rw c.in-ReadLines.is (λ told may.
    let same = is_told ⊥ (g.F.Source.folder c.args.files.now) told (λ no. no) may in
    rw same c.run_reading.ensures.verdict)

pub returns-in-FindPattern-clause-verdict : goal.returns-in-FindPattern-clause-verdict
returns-in-FindPattern-clause-verdict g c = rw c.in-FindPattern.is c.run_finding.ensures.verdict

-- ---- where memory ran out before anything was read

pub returns-in_err-session-in-RunInput-clause-verdict : goal.returns-in_err-session-in-RunInput-clause-verdict
returns-in_err-session-in-RunInput-clause-verdict g c =
    let p = err_from_is_err_and c.from_residual.result c.from_residual.ensures.1 in
    λ told may. rw p.1 (world_none told (g.S.Source.left c.args.input.now) _ (λ May. tt))

pub returns-in_err-session-in-ShowReadable-clause-verdict : goal.returns-in_err-session-in-ShowReadable-clause-verdict
returns-in_err-session-in-ShowReadable-clause-verdict g c =
    let p = err_from_is_err_and c.from_residual-in_err-session-in-ShowReadable.result
    c.from_residual-in_err-session-in-ShowReadable.ensures.1 in
    λ told may. rw p.1 (world_none told (g.S.Source.left c.args.input.now) _ (λ May. tt))
