use Rattle.std.proofs.Common.{Err, ap, arith}
use Rattle.std.proofs.lemmas.Result.{err_from_is_err_and}
use Rattle.ot_logic.specs.Naming.{numbers}
use Rattle.ot_logic.specs.Rules.{beta_conv_rule}
use Rattle.ot_subst.proofs.Growing.{IsLater-table, IsLater-trans}
use Rattle.ot_kernel.specs.Numbered.{tm_at}
use Rattle.ot_kernel.specs.Refusals.{of_subst}
use Rattle.ot_kernel.proofs.Refusals.{none_derived}
use Rattle.ot_kernel.proofs.Contracting.{beta_refused, one_type, redex_equated, equation_refused}
use Rattle.ot_kernel.proofs.instances.beta_conv.Goals as goal

pub returns-in_err-contracted-clause-derives : goal.returns-in_err-contracted-clause-derives
returns-in_err-contracted-clause-derives c =
    none_derived c.from_residual.result (of_subst c.in_err-contracted.field-0.0)
    (beta_conv_rule numbers (tm_at c.args.terms.now.terms c.args.t)) c.beta.new.terms.terms
    c.from_residual.ensures.1
    (beta_refused (tm_at c.args.terms.now.terms c.args.t) c.in_err-contracted.field-0.0
    (λ e. c.in_err-contracted.ensures.not_redex (ap Err e)) (λ e. c.in_err-contracted.ensures.nesting (ap Err e)))

pub equate-requires-clause-typed : goal.equate-requires-clause-typed
equate-requires-clause-typed c =
    let was = c.in_ok-contracted.ensures.later in
    one_type c.args.terms.now c.beta.new.terms was.grows was.table c.args.t c.requires.inside
    c.in_ok-contracted.contracted c.in_ok-contracted.ensures.ok

pub returns-in_err-concl-clause-derives : goal.returns-in_err-concl-clause-derives
returns-in_err-concl-clause-derives c =
    let was = c.in_ok-contracted.ensures.later in
    let p = err_from_is_err_and c.from_residual-in_err-concl.result c.from_residual-in_err-concl.ensures.1 in
    rw (p.1, p.2) (equation_refused c.args.terms.now c.beta.new.terms was.grows was.table c.args.t c.requires.inside
    c.in_ok-contracted.contracted c.in_ok-contracted.ensures.ok _ c.in_err-concl.ensures.makes)

pub returns-clause-derives : goal.returns-clause-derives
returns-clause-derives c =
    let was = c.in_ok-contracted.ensures.later in
    redex_equated c.args.terms.now c.beta.new.terms was.grows was.table c.args.t c.requires.inside
    c.in_ok-contracted.contracted c.in_ok-contracted.ensures.ok c.equate.new.terms c.in_ok-concl.ensures.grown.grows
    (record { hyps = c.none.result; concl = c.in_ok-concl.concl }) c.none.ensures.items c.in_ok-concl.ensures.makes

pub returns-clause-later : goal.returns-clause-later
returns-clause-later c =
    let was = c.in_ok-contracted.ensures.later in
    let first = c.in_ok-contracted.ensures.name_table.first.longer in
    IsLater-trans _ _ _ _ _ _ was
    (IsLater-table _ _ _ _ was.names c.in_ok-concl.ensures.grown (omega (arith, first)))
