use Rattle.std.proofs.Common.{◌≡◌, ℕ, List, [], true}
use Rattle.std.proofs.lemmas.Result.{err_from_is_err_and}
use Rattle.ot_io.specs.Causes.{CountRose}
use Rattle.ot_repo.specs.Answers.{names_of}
use Rattle.ot_program.specs.World.{is_standard}
use Rattle.ot_program.specs.Answer.{FileFailed}
use Rattle.ot_program.proofs.NotedLemmas.{leaves, keeps, rose_later, file_later}
use Rattle.ot_program.proofs.FindingLemmas.{walk_ends_search, input_ends_search, search_ends_search, theory_last_of}
use Rattle.ot_program.proofs.FindingLemmas.{leaves_more, last_more, if_ended, none_asked}
use Rattle.ot_program.proofs.Worlds.{told_behind}
use Rattle.ot_program.proofs.finding.search_in.Goals as goal

-- ---- by what is required

pub returns-in_err-fulls-clause-searched : goal.returns-in_err-fulls-clause-searched
returns-in_err-fulls-clause-searched g c =
    let i = g.S.Source.faults c.args.input.now in
    let query = c.args.query in
    let F : List ℕ → Type 0 = FileFailed (g.F.Source.at c.required_packages.new.files)
    (g.F.Source.faults c.args.files.now) (g.F.Source.faults c.required_packages.new.files) in
    let p = err_from_is_err_and c.from_residual.result c.from_residual.ensures.1 in
    λ told may. rw (p.1, p.2) (walk_ends_search query.packages.now query.pattern.now query.path.now told (g.S.Source.left c.args.input.now) (CountRose i i) F
    (CountRose (g.F.Source.misses c.args.files.now) (g.F.Source.misses c.required_packages.new.files))
    c.in_err-fulls.field-0.0 (c.in_err-fulls.ensures.required told may))

pub returns-in_err-fulls-clause-last : goal.returns-in_err-fulls-clause-last
returns-in_err-fulls-clause-last g c =
    let p = err_from_is_err_and c.from_residual.result c.from_residual.ensures.1 in
    rw (p.1, p.2) (theory_last_of c.args.query.path.now (g.F.Source.folder c.args.files.now)
    (g.F.Source.at c.required_packages.new.files) c.in_err-fulls.field-0.0 c.in_err-fulls.ensures.theory)

-- ---- by the run of the input

pub returns-in_err-noted-clause-searched : goal.returns-in_err-noted-clause-searched
returns-in_err-noted-clause-searched g c =
    let query = c.args.query in
    let at = g.F.Source.at c.input_run.new.files in
    let f0 = g.F.Source.faults c.args.files.now in
    let f1 = g.F.Source.faults c.required_packages.new.files in
    let f2 = g.F.Source.faults c.input_run.new.files in
    let m0 = g.F.Source.misses c.args.files.now in
    let m1 = g.F.Source.misses c.required_packages.new.files in
    let m2 = g.F.Source.misses c.input_run.new.files in
    let kept = c.in_ok-fulls.ensures.files.keeps in
    let p = err_from_is_err_and c.from_residual-in_err-noted.result c.from_residual-in_err-noted.ensures.1 in
    let standard : Type 0 = is_standard query.path.now ≡ true in
    λ told may.
    let ran = c.in_err-noted.ensures.ran told (told_behind standard standard (g.F.Source.folder c.args.files.now)
    (g.F.Source.folder c.required_packages.new.files) told (λ is. is) kept.same_folder may) in
    rw (p.1, p.2) (input_ends_search query.packages.now query.pattern.now query.path.now told
    (g.S.Source.left c.args.input.now)
    (g.S.Source.left c.input_run.new.input) c.in_ok-fulls.fulls c.input_run.new.session
    (CountRose (g.S.Source.faults c.args.input.now) (g.S.Source.faults c.input_run.new.input)) _
    (FileFailed at f1 f2) (FileFailed at f0 f2) _ (CountRose m1 m2) (CountRose m0 m2) c.in_err-noted.field-0.0
    (file_later at f0 f1 f2 kept.later) (rose_later m0 m1 m2 kept.later_misses) (c.in_ok-fulls.ensures.required told may) ran)

-- ---- and behind it

pub search_run-requires-clause-full : goal.search_run-requires-clause-full
search_run-requires-clause-full g c = rw c.deref.ensures.value c.in_ok-fulls.ensures.full

pub returns-clause-searched : goal.returns-clause-searched
returns-clause-searched g c =
    let query = c.args.query in
    let at = g.F.Source.at c.search_run.new.files in
    let f0 = g.F.Source.faults c.args.files.now in
    let f2 = g.F.Source.faults c.input_run.new.files in
    let f3 = g.F.Source.faults c.search_run.new.files in
    let m0 = g.F.Source.misses c.args.files.now in
    let m2 = g.F.Source.misses c.input_run.new.files in
    let m3 = g.F.Source.misses c.search_run.new.files in
    let kept = keeps g.F.Source.folder g.F.Source.faults g.F.Source.misses g.F.Source.left c.args.files.now
    c.required_packages.new.files c.input_run.new.files c.in_ok-fulls.ensures.files c.in_ok-noted.ensures.files in
    let folder = g.F.Source.folder c.args.files.now in
    let standard : Type 0 = is_standard query.path.now ≡ true in
    let fulls = names_of c.in_ok-fulls.fulls in
    let searched = rw c.deref.ensures.value at c.search_run.ensures.searched in
    λ told may.
    let ran = c.in_ok-noted.ensures.ran told (told_behind standard standard folder
    (g.F.Source.folder c.required_packages.new.files) told (λ is. is) c.in_ok-fulls.ensures.files.keeps.same_folder
    may) in
    let behind = searched told (told_behind standard (fulls ≡ []) folder (g.F.Source.folder c.input_run.new.files) told
    (none_asked query.path.now fulls c.in_ok-fulls.ensures.article) kept.keeps.same_folder may) in
    search_ends_search query.packages.now query.pattern.now query.path.now told (g.S.Source.left c.args.input.now)
    (g.S.Source.left c.input_run.new.input) c.in_ok-fulls.fulls c.input_run.new.session c.in_ok-noted.noted
    c.search_run.result
    (CountRose (g.S.Source.faults c.args.input.now) (g.S.Source.faults c.input_run.new.input)) _ _
    (FileFailed at f2 f3) (FileFailed at f0 f3) _ _ (CountRose m2 m3) (CountRose m0 m3)
    c.in_ok-fulls.ensures.article (file_later at f0 f2 f3 kept.keeps.later)
    (rose_later m0 m2 m3 kept.keeps.later_misses) (c.in_ok-fulls.ensures.required told may) ran behind
