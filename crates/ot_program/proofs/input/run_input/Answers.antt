use Rattle.std.proofs.Common.{◌≡◌, true, false, sym}
use Rattle.ot_args.specs.Grammar.{is_theory}
use Rattle.ot_io.specs.Causes.{CountRose}
use Rattle.ot_io.specs.Folder.{path_asked}
use Rattle.ot_program.specs.World.{is_standard}
use Rattle.ot_program.specs.Answer.{FileFailed}
use Rattle.ot_program.specs.Endings.{end_of}
use Rattle.ot_program.proofs.InputLemmas.{standard_ran, theory_task_ran, file_ran, no_standard}
use Rattle.ot_program.proofs.Options.{if_some}
use Rattle.ot_program.proofs.TaskEnds.{asked_last}
use Rattle.ot_program.proofs.Worlds.{told_by}
use Rattle.ot_program.proofs.input.run_input.Goals as goal

pub returns-then-eq-clause-ran : goal.returns-then-eq-clause-ran
returns-then-eq-clause-ran g c =
    let job = c.args.job in
    let f = g.F.Source.faults c.args.files.now in
    let m = g.F.Source.misses c.args.files.now in
    let I : Type 0 = CountRose (g.S.Source.faults c.args.input.now) (g.S.Source.faults c.run_article_from.new.source) in
    λ told may. standard_ran job.packages.now job.path.now job.view told I
    (FileFailed (g.F.Source.at c.args.files.now) f f) (CountRose m m)
    (g.S.Source.left c.args.input.now) (g.S.Source.left c.run_article_from.new.source) _
    (end_of c.run_article_from.new.session c.run_article_from.result) (cc (c.eq.ensures, c.if-eq.true))
    c.run_article_from.ensures.ran c.run_article_from.ensures.cause

pub returns-then-is_theory-clause-ran : goal.returns-then-is_theory-clause-ran
returns-then-is_theory-clause-ran g c =
    let job = c.args.job in
    let i = g.S.Source.faults c.args.input.now in
    let path = job.path.now in
    let theory : is_theory path ≡ true = cc (c.is_theory.ensures, c.if-is_theory.true) in
    λ told may.
    let same = told_by (is_standard path) (g.F.Source.folder c.args.files.now) told (no_standard path theory) may in
    theory_task_ran job.packages.now path job.view told (CountRose i i)
    (FileFailed (g.F.Source.at c.run_theory_file.new.files) (g.F.Source.faults c.args.files.now)
    (g.F.Source.faults c.run_theory_file.new.files))
    (CountRose (g.F.Source.misses c.args.files.now) (g.F.Source.misses c.run_theory_file.new.files))
    (g.S.Source.left c.args.input.now) (end_of c.run_theory_file.new.session c.run_theory_file.result)
    theory (rw (sym same) at c.run_theory_file.ensures.ran)

pub returns-else-is_theory-clause-ran : goal.returns-else-is_theory-clause-ran
returns-else-is_theory-clause-ran g c =
    let job = c.args.job in
    let folder = g.F.Source.folder c.args.files.now in
    let i = g.S.Source.faults c.args.input.now in
    let at = g.F.Source.at c.run_article_file.new.files in
    let f = g.F.Source.faults c.args.files.now in
    let f' = g.F.Source.faults c.run_article_file.new.files in
    let o = end_of c.run_article_file.new.session c.run_article_file.result in
    let standard : is_standard job.path.now ≡ false = cc (c.eq.ensures, c.if-eq.false) in
    λ told may.
    let same = told_by (is_standard job.path.now) folder told standard may in
    file_ran job.packages.now job.path.now job.view told (CountRose i i) (FileFailed at f f')
    (CountRose (g.F.Source.misses c.args.files.now) (g.F.Source.misses c.run_article_file.new.files))
    standard (cc (c.is_theory.ensures, c.if-is_theory.false)) (CountRose f f')
    (g.S.Source.left c.args.input.now) o
    (if_some (λ _. at ≡ path_asked folder job.path.now) (λ _. CountRose f f' → FileFailed at f f' job.path.now) o
    (λ e is rose. (rose, asked_last folder job.path.now at is)) c.run_article_file.ensures.at)
    (rw (sym same) at c.run_article_file.ensures.ran) c.run_article_file.ensures.cause
