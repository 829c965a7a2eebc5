use Rattle.std.proofs.Common.{rules, ◌∙◌}
use Rattle.ot_logic.specs.declared.command.Cmd.TheVariants as words
use Rattle.ot_trace.specs.Origins.{make_one, make_two}
use Rattle.ot_machine.proofs.Traced.{traces-on, traced-origin}
use Rattle.ot_machine.proofs.session.Session.reduced_step.Goals as goal

pub returns : goal.returns
returns c =
    let s = c.args.self.now in
    let t1 = c.made_of.new.self in
    let t2 = c.made_of-2.new.self in
    let t3 = c.made_of-3.new.self in
    let t4 = c.made_of-4.new.self in
    let t5 = c.made_of-5.new.self in
    let k1 = c.in_ok-conversion.ensures.kept in
    let k2 = c.in_ok-turned.ensures.kept in
    let k3 = c.in_ok-start.ensures.kept in
    let k4 = c.in_ok-end.ensures.kept in
    let k5 = c.in_ok-made_of.ensures.kept in
    let a0_2 = traces-on s t1 t2 k1 k2 in
    let a0_3 = traces-on s t2 t3 a0_2 k3 in
    let e_conversion = c.in_ok-conversion.ensures.made in
    let x2_0turned = e_conversion in
    let e_turned = c.in_ok-turned.ensures.made ∙ (λ i. make_one words.Sym (x2_0turned i)) in
    let x3_0start = e_turned in
    let x3_1start = traced-origin s t2 c.requires.run a0_2 c.args.theorem c.requires.theorem in
    let e_start = c.in_ok-start.ensures.made ∙ (λ i. make_two words.Trans (x3_0start i) (x3_1start i)) in
    let x4_0end = traced-origin s t3 c.requires.run a0_3 c.args.right c.requires.right in
    let e_end = c.in_ok-end.ensures.made ∙ (λ i. make_one words.BetaConv (x4_0end i)) in
    let x5_0out = traced-origin t3 t4 k3.is_run k4 c.in_ok-start.start c.in_ok-start.ensures.inside ∙ e_start in
    let x5_1out = e_end in
    record {
      made = c.in_ok-made_of.ensures.made ∙ (λ i. make_two words.Trans (x5_0out i) (x5_1out i));
      inside = c.in_ok-made_of.ensures.inside;
      kept = search rules;
    }
