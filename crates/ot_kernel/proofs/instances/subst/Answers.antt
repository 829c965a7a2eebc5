use Rattle.std.proofs.Common.{Err, ap}
use Rattle.ot_logic.specs.Naming.{numbers}
use Rattle.ot_logic.specs.Rules.{subst_rule}
use Rattle.ot_subst.specs.Substitution.{type_part, variable_part}
use Rattle.ot_kernel.specs.Numbered.{tm_at, numbered_sequent}
use Rattle.ot_kernel.specs.Refusals.{of_subst}
use Rattle.ot_kernel.proofs.Refusals.{none_derived}
use Rattle.ot_kernel.proofs.Substituting.{theorem_substituted, conclusion_refused}
use Rattle.ot_kernel.proofs.instances.subst.Goals as goal

pub returns-in_err-hyps-clause-derives : goal.returns-in_err-hyps-clause-derives
returns-in_err-hyps-clause-derives c =
    none_derived c.from_residual.result c.in_err-hyps.field-0.0
    (subst_rule numbers (type_part c.args.terms.now c.args.s.now) (variable_part c.args.terms.now c.args.s.now)
    (numbered_sequent c.args.terms.now.terms c.args.th.now)) c.images.new.terms.terms c.from_residual.ensures.1
    (rw c.deref.ensures.value at (c.in_err-hyps.ensures.refuses (tm_at c.args.terms.now.terms c.args.th.now.concl)))

pub returns-in_err-concl-clause-derives : goal.returns-in_err-concl-clause-derives
returns-in_err-concl-clause-derives c =
    none_derived c.from_residual-in_err-concl.result (of_subst c.in_err-concl.field-0.0)
    (subst_rule numbers (type_part c.args.terms.now c.args.s.now) (variable_part c.args.terms.now c.args.s.now)
    (numbered_sequent c.args.terms.now.terms c.args.th.now)) c.apply.new.terms.terms
    c.from_residual-in_err-concl.ensures.1
    (conclusion_refused c.args.terms.now c.images.new.terms c.in_ok-hyps.ensures.later.grows c.args.s.now
    c.requires.subst c.args.th.now c.requires.inside c.in_err-concl.field-0.0
    (λ e. c.in_err-concl.ensures.nesting (ap Err e)) (λ e. c.in_err-concl.ensures.redex (ap Err e)))

pub returns-clause-derives : goal.returns-clause-derives
returns-clause-derives c =
    theorem_substituted c.args.terms.now c.images.new.terms c.in_ok-hyps.ensures.later.grows c.args.s.now
    c.requires.subst c.args.th.now c.requires.inside c.apply.new.terms c.in_ok-concl.ensures.later.grows
    c.in_ok-concl.ensures.later.table c.in_ok-hyps.hyps.items
    (record { hyps = c.in_ok-hyps-2.hyps; concl = c.in_ok-concl.concl })
    (rw c.deref.ensures.value at c.in_ok-hyps.ensures.images)
    (rw c.as_slice.ensures at c.in_ok-hyps-2.ensures.once) c.in_ok-hyps-2.ensures.inside
    c.in_ok-concl.ensures.ok
