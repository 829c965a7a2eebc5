use Rattle.std.proofs.Common.{◌∙◌, Ok, Err, ap}
use Rattle.std.proofs.lemmas.Result.{err_from_is_err_and}
use Rattle.ot_io.proofs.Readings.{Files-none, Files-map, Files-next}
use Rattle.ot_theory.specs.Answers.{theory_of, tags_of}
use Rattle.ot_link.specs.Answers.{ran_of}
use Rattle.ot_link.specs.Shown.{shown_by_all}
use Rattle.ot_link.specs.Stops.{Setting}
use Rattle.ot_link.proofs.TheoryFiles.{file-unread, file-unparsed, file-parsed}
use Rattle.ot_program.specs.Endings.{noted_of}
use Rattle.ot_program.specs.declared.noted.NotedRun.{NotedRun}
use Rattle.ot_program.proofs.InputLemmas.{limits_are, lawful_ends}
use Rattle.ot_program.proofs.NotedLemmas.{noted_from_theory, noted_stopped, noted_ended, program_limits}
use Rattle.ot_program.proofs.noted.run_shown.Goals as goal

-- ---- it isn't run

pub returns-in_err-text-clause-comes : goal.returns-in_err-text-clause-comes
returns-in_err-text-clause-comes g c =
    let p = err_from_is_err_and c.from_residual.result c.from_residual.ensures.1 in
    let s = c.args.session.now in
    let l = c.standard-limits.result in
    let path = c.args.path.now in
    let fault = c.in_err-text.field-0.0 in
    rw (p.1, p.2)
    (Files-map _ _ _ (λ folder text.
    let e : Setting = record { folder = folder; packages = c.args.packages.now; limits = l } in
    program_limits s.kernel (noted_of s) (Err fault) c.args.packages.now path folder l
    (limits_are l c.standard-limits.ensures)
    (file-unread s.kernel e path (noted_from_theory e path) fault (text s.kernel)))
    c.in_err-text.ensures.reads)

pub returns-in_err-theory-clause-comes : goal.returns-in_err-theory-clause-comes
returns-in_err-theory-clause-comes g c =
    let p = err_from_is_err_and c.from_residual-in_err-theory.result c.from_residual-in_err-theory.ensures.1 in
    let s = c.args.session.now in
    let l = c.standard-limits.result in
    let path = c.args.path.now in
    let fault = c.in_err-theory.field-0.0 in
    rw (p.1, p.2)
    (Files-map _ _ _ (λ folder text.
    let e : Setting = record { folder = folder; packages = c.args.packages.now; limits = l } in
    program_limits s.kernel (noted_of s) (Err fault) c.args.packages.now path folder l
    (limits_are l c.standard-limits.ensures)
    (file-unparsed s.kernel e path (noted_from_theory e path) c.in_ok-text.text.items (text s.kernel) fault
    (rw c.deref.ensures.value at (c.in_err-theory.ensures.comes s.kernel))))
    c.in_ok-text.ensures.reads)

pub returns-in_err-names-clause-comes : goal.returns-in_err-names-clause-comes
returns-in_err-names-clause-comes g c =
    let p = err_from_is_err_and c.from_residual-in_err-names.result c.from_residual-in_err-names.ensures.1 in
    rw (p.1, p.2) (Files-none _ _ (λ folder. tt))

-- ---- it is

pub returns-in_err-exports-clause-comes : goal.returns-in_err-exports-clause-comes
returns-in_err-exports-clause-comes g c =
    let p = err_from_is_err_and c.from_residual-in_err-exports.result c.from_residual-in_err-exports.ensures.1 in
    let s = c.link_theory.new.session in
    let l = c.standard-limits.result in
    let path = c.args.path.now in
    let t = theory_of c.in_ok-theory.theory in
    let fault = c.in_err-exports.field-0.0 in
    rw (p.1, p.2)
    (Files-next c.read_theory.ensures.kept c.in_ok-text.ensures.reads c.in_err-exports.ensures.reads
    (λ folder text ran.
    let e : Setting = record { folder = folder; packages = c.args.packages.now; limits = l } in
    program_limits s.kernel (noted_of s) (Err fault) c.args.packages.now path folder l
    (limits_are l c.standard-limits.ensures)
    (file-parsed s.kernel e path (noted_from_theory e path) c.in_ok-text.text.items (text s.kernel) t (noted_of s)
    (Err fault) (rw c.deref.ensures.value at (c.in_ok-theory.ensures.comes s.kernel))
    (noted_stopped e path t s.kernel fault ran))))

pub returns-clause-comes : goal.returns-clause-comes
returns-clause-comes g c =
    let s = c.link_theory.new.session in
    let l = c.standard-limits.result in
    let path = c.args.path.now in
    let t = theory_of c.in_ok-theory.theory in
    let run : NotedRun = record { names = c.in_ok-names.names; exports = c.in_ok-exports.exports } in
    Files-next c.read_theory.ensures.kept c.in_ok-text.ensures.reads c.in_ok-exports.ensures.reads
    (λ folder text ran.
    let e : Setting = record { folder = folder; packages = c.args.packages.now; limits = l } in
    program_limits s.kernel (noted_of s) (Ok run) c.args.packages.now path folder l
    (limits_are l c.standard-limits.ensures)
    (file-parsed s.kernel e path (noted_from_theory e path) c.in_ok-text.text.items (text s.kernel) t (noted_of s)
    (Ok run) (rw c.deref.ensures.value at (c.in_ok-theory.ensures.comes s.kernel))
    (noted_ended e path t c.in_ok-names.names.items (ran_of s c.in_ok-exports.exports)
    (c.in_ok-names.ensures ∙ ap (λ ts. shown_by_all (tags_of ts)) c.deref-2.ensures.value) ran)))

pub returns-clause-lawful : goal.returns-clause-lawful
returns-clause-lawful g c =
    lawful_ends c.link_theory.new.session c.in_ok-exports.exports.items c.link_theory.ensures.lawful
    c.in_ok-exports.ensures.lawful_exports

-- ---- its fault

pub returns-in_err-text-clause-symbols : goal.returns-in_err-text-clause-symbols
returns-in_err-text-clause-symbols g c =
    let p = err_from_is_err_and c.from_residual.result c.from_residual.ensures.1 in
    rw (p.1, p.2) (c.in_err-text.ensures.symbols c.args.session.now.kernel)

pub returns-in_err-theory-clause-symbols : goal.returns-in_err-theory-clause-symbols
returns-in_err-theory-clause-symbols g c =
    let p = err_from_is_err_and c.from_residual-in_err-theory.result c.from_residual-in_err-theory.ensures.1 in
    rw (p.1, p.2) (c.in_err-theory.ensures.symbols c.args.session.now.kernel)

pub returns-in_err-theory-clause-cause : goal.returns-in_err-theory-clause-cause
returns-in_err-theory-clause-cause g c =
    let p = err_from_is_err_and c.from_residual-in_err-theory.result c.from_residual-in_err-theory.ensures.1 in
    rw (p.1, p.2) (c.in_err-theory.ensures.cause _ _ _ _ _)
