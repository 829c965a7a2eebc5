use Rattle.std.proofs.Common.{sym, subst}
use Rattle.std.proofs.lemmas.Result.{err_from_is_err_and}
use Rattle.ot_io.proofs.Readings.{Files-map, Files-next}
use Rattle.ot_theory.specs.Answers.{theory_of}
use Rattle.ot_machine.specs.Lawful.{IsLawfulRun}
use Rattle.ot_machine.specs.Writable.{IsWritable}
use Rattle.ot_link.specs.Stops.{Setting}
use Rattle.ot_link.specs.Link.{link_theory}
use Rattle.ot_link.specs.Answers.{ran_of}
use Rattle.ot_link.proofs.TheoryFiles.{file-unread, file-unparsed, file-parsed}
use Rattle.ot_link.proofs.linking.link.Goals as goal

pub returns-in_err-text-clause-lawful : goal.returns-in_err-text-clause-lawful
returns-in_err-text-clause-lawful g c =
    subst (IsLawfulRun IsWritable) (sym c.requires.fresh) c.fresh_law.ensures.written.0

pub returns-in_err-text-clause-reads : goal.returns-in_err-text-clause-reads
returns-in_err-text-clause-reads g c =
    let p = err_from_is_err_and c.from_residual.result c.from_residual.ensures.1 in
    let k = c.args.session.now.kernel in
    rw (p.1, p.2)
    (Files-map _ _ _ (λ folder text.
    let e : Setting =
    record { folder = folder; packages = c.args.packages.now; limits = c.args.limits.now } in
    file-unread k e c.args.theory_path.now (link_theory e c.args.theory_path.now) c.in_err-text.field-0.0 (text k))
    c.in_err-text.ensures.reads)

pub returns-in_err-theory-clause-lawful : goal.returns-in_err-theory-clause-lawful
returns-in_err-theory-clause-lawful g c =
    subst (IsLawfulRun IsWritable) (sym c.requires.fresh) c.fresh_law.ensures.written.0

pub returns-in_err-theory-clause-cause : goal.returns-in_err-theory-clause-cause
returns-in_err-theory-clause-cause g c =
    let p = err_from_is_err_and c.from_residual-in_err-theory.result c.from_residual-in_err-theory.ensures.1 in
    rw (p.1, p.2) (c.in_err-theory.ensures.cause _ _ _ _ _)

pub returns-in_err-theory-clause-reads : goal.returns-in_err-theory-clause-reads
returns-in_err-theory-clause-reads g c =
    let p = err_from_is_err_and c.from_residual-in_err-theory.result c.from_residual-in_err-theory.ensures.1 in
    let k = c.args.session.now.kernel in
    rw (p.1, p.2)
    (Files-map _ _ _ (λ folder text.
    let e : Setting =
    record { folder = folder; packages = c.args.packages.now; limits = c.args.limits.now } in
    file-unparsed k e c.args.theory_path.now (link_theory e c.args.theory_path.now) c.in_ok-text.text.items (text k)
    c.in_err-theory.field-0.0 (rw c.deref.ensures.value at (c.in_err-theory.ensures.comes k)))
    c.in_ok-text.ensures.reads)

pub returns-clause-reads : goal.returns-clause-reads
returns-clause-reads g c =
    let s = c.link_theory.new.session in
    let k = c.args.session.now.kernel in
    Files-next c.read_theory.ensures.kept c.in_ok-text.ensures.reads c.link_theory.ensures.reads
    (λ folder text ran.
    let e : Setting =
    record { folder = folder; packages = c.args.packages.now; limits = c.args.limits.now } in
    file-parsed s.kernel e c.args.theory_path.now (link_theory e c.args.theory_path.now) c.in_ok-text.text.items
    (text k) (theory_of c.in_ok-theory.theory) (ran_of s) c.link_theory.result
    (rw c.deref.ensures.value at (c.in_ok-theory.ensures.comes k)) ran)

-- ---- what a fault names

pub returns-in_err-text-clause-symbols : goal.returns-in_err-text-clause-symbols
returns-in_err-text-clause-symbols g c =
    let p = err_from_is_err_and c.from_residual.result c.from_residual.ensures.1 in
    rw (p.1, p.2) (c.in_err-text.ensures.symbols c.args.session.now.kernel)

pub returns-in_err-theory-clause-symbols : goal.returns-in_err-theory-clause-symbols
returns-in_err-theory-clause-symbols g c =
    let p = err_from_is_err_and c.from_residual-in_err-theory.result c.from_residual-in_err-theory.ensures.1 in
    rw (p.1, p.2) (c.in_err-theory.ensures.symbols c.args.session.now.kernel)
