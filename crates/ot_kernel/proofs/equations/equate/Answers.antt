use Rattle.std.proofs.Common.{ap}
use Rattle.std.specs.Prelude.{Err}
use Rattle.std.proofs.lemmas.Result.{err_from_is_err_and}
use Rattle.ot_term.specs.TermTable.{term_at}
use Rattle.ot_kernel.proofs.NewTerms.{makes_equation, equation_refused}
use Rattle.ot_kernel.proofs.equations.equate.Goals as goal

pub returns-in_err-eq-clause-makes : goal.returns-in_err-eq-clause-makes
returns-in_err-eq-clause-makes c =
    let p = err_from_is_err_and c.from_residual.result c.from_residual.ensures.1 in
    let ts = c.args.terms.now.terms in
    let why = c.in_err-eq.ensures in
    rw (p.1, p.2) (equation_refused (term_at ts c.args.a) (term_at ts c.args.b) _ c.requires.typed
    (λ e. why.not_function (ap Err e)) (λ e. why.argument_type (ap Err e)) (λ e. why.nesting (ap Err e)))

pub returns-clause-makes : goal.returns-clause-makes
returns-clause-makes c =
    let ts = c.args.terms.now.terms in
    let (ty, typed, made) = c.in_ok-eq.ensures.ok in
    makes_equation c.eq.new.self (term_at ts c.args.a) (term_at ts c.args.b) ty c.in_ok-eq.field-0
    c.eq.ensures.grown.table typed made
