use Rattle.std.specs.Prelude.{[]}
use Rattle.std.proofs.Common.{rules, refl, ◌∙◌}
use Rattle.std.proofs.lemmas.Option.{get_or_from_slice_get}
use Rattle.ot_machine.specs.OpenTypes.{variable_at, term_of, redex, composed, outcome_at, reduced}
use Rattle.ot_machine.specs.Meaning.{origin_of}
use Rattle.ot_machine.proofs.Traced.{traces-on, traced-origin}
use Rattle.ot_machine.proofs.session.Session.returned_step.Goals as goal

pub returns : goal.returns
returns c =
    let s = c.args.self.now in
    let t1 = c.variable_steps.new.self in
    let t2 = c.composed_step.new.self in
    let t3 = c.redex_step.new.self in
    let t4 = c.outcome_at_step.new.self in
    let t5 = c.redex_step-2.new.self in
    let t6 = c.reduced_step.new.self in
    let k1 = c.in_ok-variable.ensures.kept in
    let k2 = c.in_ok-round.ensures.kept in
    let k3 = c.in_ok-left.ensures.kept in
    let k4 = c.in_ok-theorem.ensures.kept in
    let k5 = c.in_ok-right.ensures.kept in
    let k6 = c.in_ok-reduced_step.ensures.kept in
    let a0_2 = traces-on s t1 t2 k1 k2 in
    let a1_3 = traces-on t1 t2 t3 k2 k3 in
    let a3_5 = traces-on t3 t4 t5 k4 k5 in
    let a0_3 = traces-on s t2 t3 a0_2 k3 in
    let a1_4 = traces-on t1 t3 t4 a1_3 k4 in
    let n1variable = get_or_from_slice_get s.kernel.names 3 _ [] (c.sound.ensures.names.first.keeps 3 _ refl) in
    let e_variable = c.in_ok-variable.ensures.variable ∙ (λ i. variable_at (n1variable i) (origin_of s c.args.new)) in
    let n1a = get_or_from_slice_get s.kernel.names 3 _ [] (c.sound.ensures.names.first.keeps 3 _ refl) in
    let e_a = c.in_ok-variable.ensures.term ∙ (λ i. term_of (variable_at (n1a i) (origin_of s c.args.new))) in
    let x2_0round = traced-origin s t1 c.requires.run k1 c.args.abs c.requires.abs in
    let x2_1round = traced-origin s t1 c.requires.run k1 c.args.rep c.requires.rep in
    let x2_2round = e_a in
    let e_round = c.in_ok-round.ensures.made ∙ (λ i. composed (x2_0round i) (x2_1round i) (x2_2round i)) in
    let x3_0left = traced-origin t1 t2 k1.is_run k2 c.in_ok-variable.variable c.in_ok-variable.ensures.variable_step
    ∙ e_variable in
    let x3_1left = e_round in
    let x3_2left = traced-origin t1 t2 k1.is_run k2 c.in_ok-variable.a c.in_ok-variable.ensures.term_step ∙ e_a in
    let e_left = c.in_ok-left.ensures.made ∙ (λ i. redex (x3_0left i) (x3_1left i) (x3_2left i)) in
    let x4_0theorem = traced-origin s t3 c.requires.run a0_3 c.args.definition c.requires.definition in
    let x4_1theorem = traced-origin t1 t3 k1.is_run a1_3 c.in_ok-variable.a c.in_ok-variable.ensures.term_step ∙ e_a in
    let e_theorem = c.in_ok-theorem.ensures.made ∙ (λ i. outcome_at 1 (x4_0theorem i) (x4_1theorem i)) in
    let x5_0right = traced-origin t1 t4 k1.is_run a1_4 c.in_ok-variable.variable c.in_ok-variable.ensures.variable_step
    ∙ e_variable in
    let x5_1right = traced-origin t1 t4 k1.is_run a1_4 c.in_ok-variable.a c.in_ok-variable.ensures.term_step ∙ e_a in
    let x5_2right = traced-origin t1 t4 k1.is_run a1_4 c.in_ok-variable.a c.in_ok-variable.ensures.term_step ∙ e_a in
    let e_right = c.in_ok-right.ensures.made ∙ (λ i. redex (x5_0right i) (x5_1right i) (x5_2right i)) in
    let x6_0out = traced-origin t3 t5 k3.is_run a3_5 c.in_ok-left.left c.in_ok-left.ensures.inside ∙ e_left in
    let x6_1out = traced-origin t4 t5 k4.is_run k5 c.in_ok-theorem.theorem c.in_ok-theorem.ensures.inside ∙ e_theorem in
    let x6_2out = e_right in
    record {
      made = c.in_ok-reduced_step.ensures.made ∙ (λ i. reduced (x6_0out i) (x6_1out i) (x6_2out i));
      inside = c.in_ok-reduced_step.ensures.inside;
      kept = search rules;
    }
