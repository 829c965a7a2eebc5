use Rattle.std.proofs.Common.{ℕ, Err, ap}
use Rattle.ot_logic.specs.Trees.{Tm}
use Rattle.ot_logic.specs.Naming.{numbers}
use Rattle.ot_logic.specs.Rules.{subst_rule}
use Rattle.ot_subst.specs.Substitution.{type_part, variable_part}
use Rattle.ot_kernel.specs.Answers.{RefusesRule}
use Rattle.ot_kernel.specs.Numbered.{tms_at}
use Rattle.ot_kernel.specs.Refusals.{of_subst}
use Rattle.ot_kernel.proofs.Refusals.{handed_on}
use Rattle.ot_kernel.proofs.Substituting.{image_added, image_refused}
use Rattle.ot_kernel.proofs.instances.images.Goals as goal

pub loop-id-preserved : goal.loop-id-preserved
loop-id-preserved c =
    let was = c.in_ok-apply.ensures in
    image_added c.args.names.now c.loop-id.names c.args.terms.now c.loop-id.terms c.args.s.now c.args.ids.now
    c.loop-id.id-index c.loop-id.images.items c.loop-id.invariant c.requires.subst c.id-item.result
    c.loop-id-test.true c.id-item.is c.requires.inside c.apply.new.names c.apply.new.terms c.in_ok-apply.field-0
    c.push.new.self.items c.in_ok-push.ensures.ok was.later was.name_table was.fits was.ok

pub returns-in_err-apply-clause-refuses : goal.returns-in_err-apply-clause-refuses
returns-in_err-apply-clause-refuses c =
    let refused = λ (concl : Tm ℕ). image_refused c.args.names.now c.loop-id.names c.args.terms.now c.loop-id.terms
    c.args.s.now c.args.ids.now c.loop-id.id-index c.loop-id.images.items c.loop-id.invariant c.requires.subst
    c.id-item.result c.loop-id-test.true c.id-item.is c.requires.inside concl c.in_err-apply.field-0.0
    (λ e. c.in_err-apply.ensures.nesting (ap Err e)) (λ e. c.in_err-apply.ensures.redex (ap Err e)) in
    handed_on c.from_residual.result (of_subst c.in_err-apply.field-0.0)
    (λ e. (concl : Tm ℕ)
    → RefusesRule e
    (subst_rule numbers (type_part c.args.terms.now c.args.s.now) (variable_part c.args.terms.now c.args.s.now)
    (record { hyps = tms_at c.args.terms.now.terms c.args.ids.now; concl = concl }))) c.from_residual.ensures.1
    refused
