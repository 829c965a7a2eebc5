use Rattle.std.proofs.Common.{ℕ, List}
use Rattle.ot_io.specs.Causes.{CountRose}
use Rattle.ot_program.specs.Answer.{FileFailed}
use Rattle.ot_program.specs.Endings.{end_of}
use Rattle.ot_program.specs.Tasks.{job_task}
use Rattle.ot_program.proofs.Worlds.{world_map}
use Rattle.ot_program.proofs.VerdictLemmas.{task_verdict, last_path}
use Rattle.ot_program.proofs.program.job_in.Goals as goal

pub returns-clause-verdict : goal.returns-clause-verdict
returns-clause-verdict g c =
    let I : Type 0 = CountRose (g.S.Source.faults c.args.input.now) (g.S.Source.faults c.run_input-ran.new.input) in
    let F : List ℕ → Type 0 = FileFailed (g.F.Source.at c.run_input-ran.new.files)
    (g.F.Source.faults c.args.files.now) (g.F.Source.faults c.run_input-ran.new.files) in
    let Q : Type 0 = CountRose (g.F.Source.misses c.args.files.now) (g.F.Source.misses c.run_input-ran.new.files) in
    λ told may. world_map told (g.S.Source.left c.args.input.now)
    (g.S.Source.left c.run_input-ran.new.input) _ _
    (λ May ended. task_verdict I F Q (job_task c.args.job) May
    (end_of c.run_input-ran.new.session c.run_input-ran.result) c.verdict_on.result c.verdict_on.ensures ended)
    (c.run_input-ran.ensures.ran told may)

pub returns-clause-at : goal.returns-clause-at
returns-clause-at g c =
    last_path _ (job_task c.args.job) (end_of c.run_input-ran.new.session c.run_input-ran.result)
    c.verdict_on.result c.verdict_on.ensures c.run_input-ran.ensures.at
