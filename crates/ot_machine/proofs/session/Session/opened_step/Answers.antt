use Rattle.std.specs.Prelude.{[]}
use Rattle.std.proofs.Common.{rules, refl, ◌∙◌}
use Rattle.std.proofs.lemmas.Option.{get_or_from_slice_get}
use Rattle.ot_logic.specs.declared.command.Cmd.TheVariants as words
use Rattle.ot_trace.specs.Origins.{make_one, make_two}
use Rattle.ot_machine.specs.Version5.{app}
use Rattle.ot_machine.specs.OpenTypes.{variable_at, term_of, redex, composed, outcome_at, reduced}
use Rattle.ot_machine.specs.Meaning.{origin_of}
use Rattle.ot_machine.proofs.Traced.{traces-on, traced-origin}
use Rattle.ot_machine.proofs.session.Session.opened_step.Goals as goal

pub returns : goal.returns
returns c =
    let s = c.args.self.now in
    let t1 = c.variable_steps.new.self in
    let t2 = c.made_of.new.self in
    let t3 = c.redex_step.new.self in
    let t4 = c.equation_step.new.self in
    let t5 = c.redex_step-2.new.self in
    let t6 = c.outcome_at_step.new.self in
    let t7 = c.made_of-2.new.self in
    let t8 = c.reduced_step.new.self in
    let k1 = c.in_ok-variable.ensures.kept in
    let k2 = c.in_ok-claim.ensures.kept in
    let k3 = c.in_ok-left.ensures.kept in
    let k4 = c.in_ok-equation.ensures.kept in
    let k5 = c.in_ok-right.ensures.kept in
    let k6 = c.in_ok-theorem.ensures.kept in
    let k7 = c.in_ok-turned.ensures.kept in
    let k8 = c.in_ok-reduced_step.ensures.kept in
    let a0_2 = traces-on s t1 t2 k1 k2 in
    let a1_3 = traces-on t1 t2 t3 k2 k3 in
    let a3_5 = traces-on t3 t4 t5 k4 k5 in
    let a5_7 = traces-on t5 t6 t7 k6 k7 in
    let a0_3 = traces-on s t2 t3 a0_2 k3 in
    let a1_4 = traces-on t1 t3 t4 a1_3 k4 in
    let a3_6 = traces-on t3 t5 t6 a3_5 k6 in
    let a0_4 = traces-on s t3 t4 a0_3 k4 in
    let a1_5 = traces-on t1 t4 t5 a1_4 k5 in
    let a3_7 = traces-on t3 t6 t7 a3_6 k7 in
    let a0_5 = traces-on s t4 t5 a0_4 k5 in
    let n1variable = get_or_from_slice_get s.kernel.names 4 _ [] (c.sound.ensures.names.first.keeps 4 _ refl) in
    let e_variable = c.in_ok-variable.ensures.variable ∙ (λ i. variable_at (n1variable i) (origin_of s c.args.old)) in
    let n1r = get_or_from_slice_get s.kernel.names 4 _ [] (c.sound.ensures.names.first.keeps 4 _ refl) in
    let e_r = c.in_ok-variable.ensures.term ∙ (λ i. term_of (variable_at (n1r i) (origin_of s c.args.old))) in
    let x2_0claim = traced-origin s t1 c.requires.run k1 c.args.predicate c.requires.predicate in
    let x2_1claim = e_r in
    let e_claim = c.in_ok-claim.ensures.made ∙ (λ i. make_two words.AppTerm (x2_0claim i) (x2_1claim i)) in
    let x3_0left = traced-origin t1 t2 k1.is_run k2 c.in_ok-variable.variable c.in_ok-variable.ensures.variable_step
    ∙ e_variable in
    let x3_1left = e_claim in
    let x3_2left = traced-origin t1 t2 k1.is_run k2 c.in_ok-variable.r c.in_ok-variable.ensures.term_step ∙ e_r in
    let e_left = c.in_ok-left.ensures.made ∙ (λ i. redex (x3_0left i) (x3_1left i) (x3_2left i)) in
    let x4_0equation = traced-origin s t3 c.requires.run a0_3 c.args.constants.equality c.requires.equality in
    let x4_1equation = traced-origin s t3 c.requires.run a0_3 c.args.constants.rep c.requires.rep in
    let x4_2equation = traced-origin s t3 c.requires.run a0_3 c.args.constants.abs c.requires.abs in
    let x4_3equation = traced-origin t1 t3 k1.is_run a1_3 c.in_ok-variable.r c.in_ok-variable.ensures.term_step ∙ e_r in
    let e_equation = c.in_ok-equation.ensures.made
    ∙ (λ i. app (app (x4_0equation i) (composed (x4_1equation i) (x4_2equation i) (x4_3equation i)))
    (x4_3equation i)) in
    let x5_0right = traced-origin t1 t4 k1.is_run a1_4 c.in_ok-variable.variable c.in_ok-variable.ensures.variable_step
    ∙ e_variable in
    let x5_1right = e_equation in
    let x5_2right = traced-origin t1 t4 k1.is_run a1_4 c.in_ok-variable.r c.in_ok-variable.ensures.term_step ∙ e_r in
    let e_right = c.in_ok-right.ensures.made ∙ (λ i. redex (x5_0right i) (x5_1right i) (x5_2right i)) in
    let x6_0theorem = traced-origin s t5 c.requires.run a0_5 c.args.definition c.requires.definition in
    let x6_1theorem = traced-origin t1 t5 k1.is_run a1_5 c.in_ok-variable.r c.in_ok-variable.ensures.term_step ∙ e_r in
    let e_theorem = c.in_ok-theorem.ensures.made ∙ (λ i. outcome_at 2 (x6_0theorem i) (x6_1theorem i)) in
    let x7_0turned = e_theorem in
    let e_turned = c.in_ok-turned.ensures.made ∙ (λ i. make_one words.Sym (x7_0turned i)) in
    let x8_0out = traced-origin t3 t7 k3.is_run a3_7 c.in_ok-left.left c.in_ok-left.ensures.inside ∙ e_left in
    let x8_1out = e_turned in
    let x8_2out = traced-origin t5 t7 k5.is_run a5_7 c.in_ok-right.right c.in_ok-right.ensures.inside ∙ e_right in
    record {
      made = c.in_ok-reduced_step.ensures.made ∙ (λ i. reduced (x8_0out i) (x8_1out i) (x8_2out i));
      inside = c.in_ok-reduced_step.ensures.inside;
      kept = search rules;
    }
