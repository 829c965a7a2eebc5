use Rattle.std.specs.Prelude.{Err}
use Rattle.std.proofs.Common.{ℕ, ◌+◌, ap, arith}
use Rattle.std.proofs.lemmas.Result.{err_from_is_err_and}
use Rattle.ot_term.specs.Term.{TermTable}
use Rattle.ot_term.specs.TermTable.{term_at, IsGrownTo}
use Rattle.ot_term.proofs.Growing.{grown_further}
use Rattle.ot_kernel.specs.Numbered.{IsGrownBy}
use Rattle.ot_kernel.proofs.NewTerms.{makes_application, application_refused}
use Rattle.ot_kernel.proofs.RoundTrips.{there_refused, back_refused, trip_made}
use Rattle.ot_kernel.proofs.defining.round_trip.Goals as goal

-- a name, and then two steps
grown : (n : ℕ) (s t u w : TermTable) → IsGrownTo (n + 1) s t → IsGrownTo 0 t u → IsGrownTo 0 u w → IsGrownBy n s w
grown n s t u w f g h = grown_further _ _ _ s u w (grown_further _ _ (n + 1) s t u f (omega arith) g (omega arith))
    (omega arith) h (omega arith)

pub returns-in_err-there-clause-makes : goal.returns-in_err-there-clause-makes
returns-in_err-there-clause-makes c =
    let p = err_from_is_err_and c.from_residual-in_err-there.result c.from_residual-in_err-there.ensures.1 in
    let ts = c.var.new.self.terms in
    let why = c.in_err-there.ensures in
    let refused = application_refused (term_at ts c.args.f) (term_at ts c.in_ok-x.x) _
    (λ e. why.not_function (ap Err e)) (λ e. why.argument_type (ap Err e)) (λ e. why.nesting (ap Err e)) in
    rw (p.1, p.2) (there_refused c.args.terms.now c.args.v.now c.args.f c.args.g c.requires.f c.requires.g
    c.requires.typed c.var.new.self c.var.ensures.grown.grows c.in_ok-x.x c.in_ok-x.ensures.ok _ refused)

pub returns-in_err-back-clause-makes : goal.returns-in_err-back-clause-makes
returns-in_err-back-clause-makes c =
    let p = err_from_is_err_and c.from_residual-in_err-back.result c.from_residual-in_err-back.ensures.1 in
    let ts = c.var.new.self.terms in
    let us = c.app.new.self.terms in
    let made = makes_application c.app.new.self (term_at ts c.args.f) (term_at ts c.in_ok-x.x) c.in_ok-there.there
    c.app.ensures.grown.table c.in_ok-there.ensures.ok in
    let why = c.in_err-back.ensures in
    let refused = application_refused (term_at us c.args.g) (term_at us c.in_ok-there.there) _
    (λ e. why.not_function (ap Err e)) (λ e. why.argument_type (ap Err e)) (λ e. why.nesting (ap Err e)) in
    rw (p.1, p.2)
    (back_refused c.args.terms.now c.args.v.now c.args.f c.args.g c.requires.f c.requires.g c.requires.typed
    c.var.new.self c.var.ensures.grown.grows c.in_ok-x.x c.in_ok-x.ensures.ok c.app.new.self c.app.ensures.grown.grows
    c.in_ok-there.there made _ refused)

pub returns-in_err-back-clause-grown : goal.returns-in_err-back-clause-grown
returns-in_err-back-clause-grown c =
    grown c.args.v.now.name _ _ _ _ c.var.ensures.grown c.app.ensures.grown c.app-2.ensures.grown

pub returns-clause-makes : goal.returns-clause-makes
returns-clause-makes c =
    let ts = c.var.new.self.terms in
    let us = c.app.new.self.terms in
    let made = makes_application c.app.new.self (term_at ts c.args.f) (term_at ts c.in_ok-x.x) c.in_ok-there.there
    c.app.ensures.grown.table c.in_ok-there.ensures.ok in
    let made_back = makes_application c.app-2.new.self (term_at us c.args.g) (term_at us c.in_ok-there.there)
    c.in_ok-back.back c.app-2.ensures.grown.table c.in_ok-back.ensures.ok in
    trip_made c.args.terms.now c.args.v.now c.args.f c.args.g c.requires.f c.requires.g c.requires.typed
    c.var.new.self c.var.ensures.grown.grows c.in_ok-x.x c.in_ok-x.ensures.ok c.app.new.self c.app.ensures.grown.grows
    c.in_ok-there.there made
    c.app-2.new.self c.app-2.ensures.grown.grows c.in_ok-back.back made_back

pub returns-clause-grown : goal.returns-clause-grown
returns-clause-grown c = grown c.args.v.now.name _ _ _ _ c.var.ensures.grown c.app.ensures.grown c.app-2.ensures.grown
