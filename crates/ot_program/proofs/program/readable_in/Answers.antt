use Rattle.std.proofs.Common.{ℕ, List}
use Rattle.ot_io.specs.Causes.{CountRose}
use Rattle.ot_program.specs.Tasks.{ShowReadable}
use Rattle.ot_program.specs.Answer.{FileFailed}
use Rattle.ot_program.specs.Endings.{noted_end_of}
use Rattle.ot_program.proofs.Worlds.{world_map}
use Rattle.ot_program.proofs.VerdictLemmas.{task_verdict, last_path}
use Rattle.ot_program.proofs.program.readable_in.Goals as goal

pub returns-clause-verdict : goal.returns-clause-verdict
returns-clause-verdict g c =
    let packages = c.args.packages.now in
    let path = c.args.path.now in
    let I : Type 0 = CountRose (g.S.Source.faults c.args.input.now) (g.S.Source.faults c.run_noted-ran.new.input) in
    let F : List ℕ → Type 0 = FileFailed (g.F.Source.at c.run_noted-ran.new.files)
    (g.F.Source.faults c.args.files.now) (g.F.Source.faults c.run_noted-ran.new.files) in
    let Q : Type 0 = CountRose (g.F.Source.misses c.args.files.now) (g.F.Source.misses c.run_noted-ran.new.files) in
    λ told may. world_map told (g.S.Source.left c.args.input.now)
    (g.S.Source.left c.run_noted-ran.new.input) _ _
    (λ May ended. task_verdict I F Q (ShowReadable packages path) May
    (noted_end_of c.run_noted-ran.new.session c.run_noted-ran.result) c.readable_verdict.result
    (c.readable_verdict.ensures packages) ended) (c.run_noted-ran.ensures.ran told may)

pub returns-clause-at : goal.returns-clause-at
returns-clause-at g c =
    let packages = c.args.packages.now in
    let path = c.args.path.now in
    last_path _ (ShowReadable packages path) (noted_end_of c.run_noted-ran.new.session c.run_noted-ran.result)
    c.readable_verdict.result (c.readable_verdict.ensures packages) c.run_noted-ran.ensures.at
