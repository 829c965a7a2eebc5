use Rattle.std.proofs.Common.{◌∙◌, arith}
use Rattle.ot_logic.specs.Naming.{names}
use Rattle.ot_kernel.specs.State.{name_at}
use Rattle.ot_machine.specs.OpenTypes.{fun_origin, bool_origin, constant_at}
use Rattle.ot_machine.proofs.Traced.{traces-on, traced-origin}
use Rattle.ot_machine.proofs.session.Session.constants_between.Goals as goal

pub returns-clause-made : goal.returns-clause-made
returns-clause-made c =
    let s = c.args.self.now in
    let t1 = c.function_step.new.self in
    let t2 = c.constant_step.new.self in
    let t3 = c.function_step-2.new.self in
    let t4 = c.constant_step-2.new.self in
    let t5 = c.equality_step.new.self in
    let k1 = c.in_ok-to.ensures.kept in
    let k2 = c.in_ok-to_new.ensures.kept in
    let k3 = c.in_ok-from.ensures.kept in
    let k4 = c.in_ok-to_old.ensures.kept in
    let k5 = c.in_ok-equality.ensures.kept in
    let a0_2 = traces-on s t1 t2 k1 k2 in
    let a0_3 = traces-on s t2 t3 a0_2 k3 in
    let a0_4 = traces-on s t3 t4 a0_3 k4 in
    let a2_4 = traces-on t2 t3 t4 k3 k4 in
    let a2_5 = traces-on t2 t4 t5 a2_4 k5 in
    let e_to = c.in_ok-to.ensures.made in
    let x2_0to_new = e_to in
    let e_to_new = c.in_ok-to_new.ensures.made
    ∙ (λ i. constant_at (name_at (k1.kernel i) c.args.abs) (x2_0to_new i)) in
    let x3_0from = traced-origin s t2 c.requires.run a0_2 c.args.new c.requires.new in
    let x3_1from = traced-origin s t2 c.requires.run a0_2 c.args.old c.requires.old in
    let e_from = c.in_ok-from.ensures.made ∙ (λ i. fun_origin (x3_0from i) (x3_1from i)) in
    let x4_0to_old = e_from in
    let e_to_old = c.in_ok-to_old.ensures.made
    ∙ (λ i. constant_at (name_at ((a0_3).kernel i) c.args.rep) (x4_0to_old i)) in
    let x5_0equality = traced-origin s t4 c.requires.run a0_4 c.args.old c.requires.old in
    let e_equality = c.in_ok-equality.ensures.made
    ∙ (λ i. constant_at names.equals (fun_origin (x5_0equality i) (fun_origin (x5_0equality i) bool_origin))) in
    record {
      abs = traced-origin t2 t5 k2.is_run a2_5 c.in_ok-to_new.to_new c.in_ok-to_new.ensures.inside ∙ e_to_new;
      rep = traced-origin t4 t5 k4.is_run k5 c.in_ok-to_old.to_old c.in_ok-to_old.ensures.inside ∙ e_to_old;
      equality = e_equality;
      abs_step = omega (arith, c.in_ok-to_new.ensures.inside, (a2_5).grown.longer);
      rep_step = omega (arith, c.in_ok-to_old.ensures.inside, k5.grown.longer);
      equality_step = c.in_ok-equality.ensures.inside;
    }
