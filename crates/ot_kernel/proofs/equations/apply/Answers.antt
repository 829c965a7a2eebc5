use Rattle.std.proofs.Common.{ap}
use Rattle.std.specs.Prelude.{Err}
use Rattle.std.proofs.lemmas.Result.{err_from_is_err_and}
use Rattle.ot_term.specs.TermTable.{term_at}
use Rattle.ot_kernel.proofs.NewTerms.{makes_application, application_refused}
use Rattle.ot_kernel.proofs.equations.apply.Goals as goal

pub returns-in_err-app-clause-makes : goal.returns-in_err-app-clause-makes
returns-in_err-app-clause-makes c =
    let p = err_from_is_err_and c.from_residual.result c.from_residual.ensures.1 in
    let ts = c.args.terms.now.terms in
    let why = c.in_err-app.ensures in
    rw (p.1, p.2) (application_refused (term_at ts c.args.f) (term_at ts c.args.x) _
    (λ e. why.not_function (ap Err e)) (λ e. why.argument_type (ap Err e)) (λ e. why.nesting (ap Err e)))

pub returns-clause-makes : goal.returns-clause-makes
returns-clause-makes c =
    let ts = c.args.terms.now.terms in
    makes_application c.app.new.self (term_at ts c.args.f) (term_at ts c.args.x) c.in_ok-app.field-0
    c.app.ensures.grown.table c.in_ok-app.ensures.ok
