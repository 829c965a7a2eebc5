use Rattle.std.proofs.Common.{ℕ, List, inr, refl, subst}
use Rattle.std.specs.Option.{option_and_then}
use Rattle.std.specs.Prelude.{Result, IfSome}
use Rattle.ot_io.specs.Causes.{CountRose}
use Rattle.ot_link.specs.declared.fault.LinkFault.{LinkFault}
use Rattle.ot_program.specs.Tasks.{ReadLines}
use Rattle.ot_program.specs.Command.{LastInput, LastOf}
use Rattle.ot_program.specs.Answer.{FileFailed}
use Rattle.ot_program.specs.Endings.{end_at, noted_of, noted_end_of, stop_end, read_end_of}
use Rattle.ot_program.specs.declared.noted.NotedRun.{NotedRun}
use Rattle.ot_program.proofs.Options.{ok_always}
use Rattle.ot_program.proofs.Worlds.{world_map}
use Rattle.ot_program.proofs.VerdictLemmas.{task_verdict}
use Rattle.ot_program.proofs.NotedLemmas.{rose_later, file_later, keeps}
use Rattle.ot_program.proofs.ReadingLemmas.{read_ran, stop_behind, text_last, stop_last, input_verdict}
use Rattle.ot_program.proofs.reading.reading_in.Goals as goal

-- behind a run that ended
pub returns-in-Ok-clause-verdict : goal.returns-in-Ok-clause-verdict
returns-in-Ok-clause-verdict g c =
    let path = c.args.path.now in
    let packages = c.args.packages.now in
    let text = c.args.text.now in
    let t = ReadLines packages path text in
    let told = g.F.Source.folder c.args.files.now in
    let left = g.S.Source.left c.args.input.now in
    let left' = g.S.Source.left c.run_noted.new.input in
    let at = g.F.Source.at c.read_text-read.new.files in
    let f0 = g.F.Source.faults c.args.files.now in
    let f1 = g.F.Source.faults c.run_noted.new.files in
    let f2 = g.F.Source.faults c.read_text-read.new.files in
    let m0 = g.F.Source.misses c.args.files.now in
    let m1 = g.F.Source.misses c.run_noted.new.files in
    let m2 = g.F.Source.misses c.read_text-read.new.files in
    let I : Type 0 = CountRose (g.S.Source.faults c.args.input.now) (g.S.Source.faults c.run_noted.new.input) in
    let F : List ℕ → Type 0 = FileFailed at f0 f2 in
    let N : Type 0 = CountRose m0 m2 in
    let n = noted_of c.run_noted.new.session c.in-Ok.noted in
    let o = read_end_of text n c.read_text-read.result in
    let kept = c.run_noted.ensures.files in
    let ran = world_map told left left' _ _ (λ May h. h.end) (c.in-Ok.ensures.ran told (inr refl)) in
    let read = rw kept.keeps.same_folder at c.read_text-read.ensures.read in
    world_map told left left' _ _
    (λ May ended. task_verdict I F N t May o c.reading_verdict.result (c.reading_verdict.ensures packages) ended)
    (read_ran told left left' packages path text n I F (FileFailed at f1 f2 text) (CountRose m1 m2) N
    c.read_text-read.result ran read (file_later at f0 f1 f2 kept.keeps.later text)
    (rose_later m0 m1 m2 kept.keeps.later_misses) c.read_text-read.ensures.cause)

pub returns-in-Ok-clause-at : goal.returns-in-Ok-clause-at
returns-in-Ok-clause-at g c =
    let last = rw c.run_noted.ensures.files.keeps.same_folder at c.read_text-read.ensures.at in
    ok_always _ c.reading_verdict.result
    (text_last c.args.path.now c.args.text.now (g.F.Source.folder c.args.files.now)
    (g.F.Source.at c.read_text-read.new.files) last)

-- and behind one that stopped
pub returns-in-Err-clause-verdict : goal.returns-in-Err-clause-verdict
returns-in-Err-clause-verdict g c =
    let path = c.args.path.now in
    let packages = c.args.packages.now in
    let text = c.args.text.now in
    let told = g.F.Source.folder c.args.files.now in
    let left = g.S.Source.left c.args.input.now in
    let left' = g.S.Source.left c.run_noted.new.input in
    let at = g.F.Source.at c.run_noted.new.files in
    let I : Type 0 = CountRose (g.S.Source.faults c.args.input.now) (g.S.Source.faults c.run_noted.new.input) in
    let F : List ℕ → Type 0 =
    FileFailed at (g.F.Source.faults c.args.files.now) (g.F.Source.faults c.run_noted.new.files) in
    let Q : Type 0 = CountRose (g.F.Source.misses c.args.files.now) (g.F.Source.misses c.run_noted.new.files) in
    let o = end_at c.run_noted.new.session.kernel c.in-Err.stop in
    world_map told left left' _ _
    (λ May ended.
    task_verdict I F Q (ReadLines packages path text) May (option_and_then stop_end o) c.stopped.result
    (input_verdict packages path text c.stopped.result o (rw c.kernel.ensures at c.stopped.ensures))
    (stop_behind packages path text May I F Q o ended)) (c.in-Err.ensures.ran told (inr refl))

pub returns-in-Err-clause-at : goal.returns-in-Err-clause-at
returns-in-Err-clause-at g c =
    stop_last c.args.path.now c.args.text.now (g.F.Source.folder c.args.files.now)
    (g.F.Source.at c.run_noted.new.files) c.stopped.result (end_at c.run_noted.new.session.kernel c.in-Err.stop)
    (rw c.kernel.ensures at c.stopped.ensures) c.in-Err.ensures.at

-- the files, over both
pub returns-in-Ok-clause-files : goal.returns-in-Ok-clause-files
returns-in-Ok-clause-files g c =
    keeps g.F.Source.folder g.F.Source.faults g.F.Source.misses g.F.Source.left c.args.files.now c.run_noted.new.files
    c.read_text-read.new.files c.run_noted.ensures.files c.read_text-read.ensures.files
