use Rattle.std.proofs.Common.{◌∙◌, refl}
use Rattle.ot_log_rules.proofs.Cases.{joined, app_thm-no_functions, app_thm-no_arguments}
use Rattle.ot_log_rules.proofs.Cases.{app_thm-no_function, app_thm-other, app_thm-made}
use Rattle.ot_log_rules.proofs.rules.app_thm.Goals as goal

pub returns-in_default-clause-gives : goal.returns-in_default-clause-gives
returns-in_default-clause-gives c =
    app_thm-no_functions c.args.nodes.now c.args.a.now c.args.b.now c.in_default.ensures

pub returns-in_default-as_equation-clause-gives : goal.returns-in_default-as_equation-clause-gives
returns-in_default-as_equation-clause-gives c = app_thm-no_arguments c.args.nodes.now c.args.a.now c.args.b.now
    c.in-Some.functions c.in-Some.ensures c.in_default-as_equation.ensures

pub returns-in_default-as_fun-clause-gives : goal.returns-in_default-as_fun-clause-gives
returns-in_default-as_fun-clause-gives c =
    app_thm-no_function c.args.nodes.now c.args.a.now c.args.b.now c.in-Some.functions c.in-Some-as_equation.arguments
    c.in-Some.ensures c.in-Some-as_equation.ensures c.in_default-as_fun.ensures

pub returns-then-ne-clause-gives : goal.returns-then-ne-clause-gives
returns-then-ne-clause-gives c =
    app_thm-other c.args.nodes.now c.args.a.now c.args.b.now c.primitives.ensures.once c.in-Some.functions
    c.in-Some-as_equation.arguments c.in-Some-as_fun.function.0 c.in-Some-as_fun.function.1 c.ne.result
    c.in-Some.ensures c.in-Some-as_equation.ensures c.in-Some-as_fun.ensures c.ne.ensures c.if-ne.true

pub returns-clause-gives : goal.returns-clause-gives
returns-clause-gives c =
    app_thm-made c.args.nodes.now c.args.a.now c.args.b.now c.primitives.ensures.once
    c.equation_of_applications.new.nodes c.in_ok-concl.ensures.extends c.requires.a c.requires.b
    c.in-Some.functions c.in-Some-as_equation.arguments c.in-Some-as_fun.function.0 c.in-Some-as_fun.function.1
    c.ne.result
    (record { hyps = c.in_ok-hyps.hyps; concl = c.in_ok-concl.concl }) c.in-Some.ensures c.in-Some-as_equation.ensures
    c.in-Some-as_fun.ensures c.ne.ensures c.if-ne.false
    (c.in_ok-hyps.ensures ∙ (λ i. joined (c.deref.ensures.value i) (c.deref-2.ensures.value i))) c.in_ok-concl.concl
    refl c.in_ok-concl.ensures.ok
