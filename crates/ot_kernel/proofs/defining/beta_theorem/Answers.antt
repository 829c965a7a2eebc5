use Rattle.std.proofs.Common.{ℕ, arith}
use Rattle.std.proofs.lemmas.Result.{err_from_is_err_and}
use Rattle.std.proofs.Common.{◌+◌}
use Rattle.ot_term.specs.Term.{TermTable}
use Rattle.ot_term.specs.TermTable.{IsGrownTo}
use Rattle.ot_term.proofs.Growing.{grown_further}
use Rattle.ot_kernel.specs.Numbered.{IsGrownBy}
use Rattle.ot_kernel.proofs.Equating.{grown_then, grown_more}
use Rattle.ot_kernel.proofs.BetaTheorem.{beta_holds_refused, beta_function_refused, x_there}
use Rattle.ot_kernel.proofs.BetaTheorem.{beta_redex_refused, beta_sides, beta_refused, beta_derived}
use Rattle.ot_kernel.proofs.defining.beta_theorem.Goals as goal

-- a variable, and then a step
after_var : (n : ℕ) (s t u : TermTable) → IsGrownTo (n + 1) s t → IsGrownBy n t u → IsGrownBy n s u
after_var n s t u f g = grown_further _ _ _ s t u f (omega arith) g (omega arith)

pub returns-in_err-holds-clause-derives : goal.returns-in_err-holds-clause-derives
returns-in_err-holds-clause-derives c =
    let p = err_from_is_err_and c.from_residual-in_err-holds.result c.from_residual-in_err-holds.ensures.1 in
    rw (p.1, p.2)
    (beta_holds_refused c.args.terms.now c.args.v.now c.args.p c.requires.ty c.requires.p c.requires.predicate
    c.requires.closed c.var.new.self c.var.ensures.grown.grows c.in_ok-x.x c.in_ok-x.ensures.ok _
    c.in_err-holds.ensures.makes)

pub returns-in_err-function-clause-derives : goal.returns-in_err-function-clause-derives
returns-in_err-function-clause-derives c =
    let p = err_from_is_err_and c.from_residual-in_err-function.result c.from_residual-in_err-function.ensures.1 in
    rw (p.1, p.2)
    (beta_function_refused c.args.terms.now c.args.v.now c.args.p c.requires.ty c.requires.p c.requires.predicate
    c.requires.closed c.var.new.self c.var.ensures.grown.grows c.in_ok-x.x c.in_ok-x.ensures.ok c.apply.new.terms
    c.apply.ensures.grown.grows c.in_ok-holds.holds c.in_ok-holds.ensures.makes _ c.in_err-function.ensures.makes)

pub apply-requires-2-clause-x : goal.apply-requires-2-clause-x
apply-requires-2-clause-x c =
    x_there c.args.terms.now c.args.v.now c.args.p c.requires.ty c.requires.p c.requires.predicate c.requires.closed
    c.var.new.self c.var.ensures.grown.grows c.in_ok-x.x c.in_ok-x.ensures.ok c.apply.new.terms
    c.apply.ensures.grown.grows
    c.in_ok-holds.holds c.in_ok-holds.ensures.makes c.abstract_from.new.terms c.abstract_from.ensures.grown.grows
    c.in_ok-function.function c.in_ok-function.ensures.makes

pub returns-in_err-redex-clause-derives : goal.returns-in_err-redex-clause-derives
returns-in_err-redex-clause-derives c =
    let p = err_from_is_err_and c.from_residual-in_err-redex.result c.from_residual-in_err-redex.ensures.1 in
    rw (p.1, p.2)
    (beta_redex_refused c.args.terms.now c.args.v.now c.args.p c.requires.ty c.requires.p c.requires.predicate
    c.requires.closed c.var.new.self c.var.ensures.grown.grows c.in_ok-x.x c.in_ok-x.ensures.ok c.apply.new.terms
    c.apply.ensures.grown.grows c.in_ok-holds.holds c.in_ok-holds.ensures.makes c.abstract_from.new.terms
    c.abstract_from.ensures.grown.grows c.in_ok-function.function c.in_ok-function.ensures.makes _
    c.in_err-redex.ensures.makes)

pub equate-requires-clause-typed : goal.equate-requires-clause-typed
equate-requires-clause-typed c = beta_sides c.args.terms.now c.args.v.now c.args.p c.requires.ty c.requires.p
    c.requires.predicate c.requires.closed c.var.new.self c.var.ensures.grown.grows c.in_ok-x.x c.in_ok-x.ensures.ok
    c.apply.new.terms c.apply.ensures.grown.grows c.in_ok-holds.holds c.in_ok-holds.ensures.makes
    c.abstract_from.new.terms c.abstract_from.ensures.grown.grows c.in_ok-function.function
    c.in_ok-function.ensures.makes c.apply-2.new.terms c.apply-2.ensures.grown.grows c.in_ok-redex.redex
    c.in_ok-redex.ensures.makes

pub returns-in_err-concl-clause-derives : goal.returns-in_err-concl-clause-derives
returns-in_err-concl-clause-derives c =
    let p = err_from_is_err_and c.from_residual-in_err-concl.result c.from_residual-in_err-concl.ensures.1 in
    rw (p.1, p.2)
    (beta_refused c.args.terms.now c.args.v.now c.args.p c.requires.ty c.requires.p c.requires.predicate
    c.requires.closed c.var.new.self c.var.ensures.grown.grows c.in_ok-x.x c.in_ok-x.ensures.ok c.apply.new.terms
    c.apply.ensures.grown.grows c.in_ok-holds.holds c.in_ok-holds.ensures.makes c.abstract_from.new.terms
    c.abstract_from.ensures.grown.grows c.in_ok-function.function c.in_ok-function.ensures.makes
    c.apply-2.new.terms c.apply-2.ensures.grown.grows c.in_ok-redex.redex c.in_ok-redex.ensures.makes _
    c.in_err-concl.ensures.makes)

pub returns-in_err-concl-clause-grown : goal.returns-in_err-concl-clause-grown
returns-in_err-concl-clause-grown c =
    let name = c.args.v.now.name in
    after_var name _ _ _ c.var.ensures.grown
    (grown_then name _ _ _ (grown_more name _ _ c.apply.ensures.grown)
    (grown_then name _ _ _ c.abstract_from.ensures.grown
    (grown_more name _ _ (grown_then 2 _ _ _ c.apply-2.ensures.grown c.equate.ensures.grown))))

pub returns-clause-derives : goal.returns-clause-derives
returns-clause-derives c =
    beta_derived c.args.terms.now c.args.v.now c.args.p c.requires.ty c.requires.p c.requires.predicate
    c.requires.closed c.var.new.self c.var.ensures.grown.grows c.in_ok-x.x c.in_ok-x.ensures.ok c.apply.new.terms
    c.apply.ensures.grown.grows c.in_ok-holds.holds c.in_ok-holds.ensures.makes c.abstract_from.new.terms
    c.abstract_from.ensures.grown.grows c.in_ok-function.function c.in_ok-function.ensures.makes
    c.apply-2.new.terms c.apply-2.ensures.grown.grows c.in_ok-redex.redex c.in_ok-redex.ensures.makes
    c.equate.new.terms c.apply-2.ensures.grown.table c.equate.ensures.grown.grows
    (record { hyps = c.none.result; concl = c.in_ok-concl.concl }) c.none.ensures.items c.in_ok-concl.ensures.makes

pub returns-clause-grown : goal.returns-clause-grown
returns-clause-grown c =
    let name = c.args.v.now.name in
    after_var name _ _ _ c.var.ensures.grown
    (grown_then name _ _ _ (grown_more name _ _ c.apply.ensures.grown)
    (grown_then name _ _ _ c.abstract_from.ensures.grown
    (grown_more name _ _ (grown_then 2 _ _ _ c.apply-2.ensures.grown c.equate.ensures.grown))))

pub returns-in_err-function-clause-grown : goal.returns-in_err-function-clause-grown
returns-in_err-function-clause-grown c =
    let name = c.args.v.now.name in
    after_var name _ _ _ c.var.ensures.grown
    (grown_then name _ _ _ (grown_more name _ _ c.apply.ensures.grown) c.abstract_from.ensures.grown)

pub returns-in_err-redex-clause-grown : goal.returns-in_err-redex-clause-grown
returns-in_err-redex-clause-grown c =
    let name = c.args.v.now.name in
    after_var name _ _ _ c.var.ensures.grown
    (grown_then name _ _ _ (grown_more name _ _ c.apply.ensures.grown)
    (grown_then name _ _ _ c.abstract_from.ensures.grown (grown_more name _ _ c.apply-2.ensures.grown)))
