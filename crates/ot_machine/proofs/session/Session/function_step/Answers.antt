use Rattle.std.specs.Prelude.{[]}
use Rattle.std.proofs.Common.{rules, refl, ap, ◌∙◌}
use Rattle.std.proofs.lemmas.Option.{get_or_from_slice_get}
use Rattle.ot_logic.specs.declared.command.Cmd.TheVariants as words
use Rattle.ot_kernel.specs.State.{name_at}
use Rattle.ot_trace.specs.Origins.{Named, make_two, type_op_origin}
use Rattle.ot_machine.proofs.Traced.{traces-on, traced-origin}
use Rattle.ot_machine.proofs.session.Session.function_step.Goals as goal

pub returns : goal.returns
returns c =
    let s = c.args.self.now in
    let t1 = c.made_of.new.self in
    let t2 = c.made_of-2.new.self in
    let t3 = c.made_of-3.new.self in
    let t4 = c.operated_step.new.self in
    let k1 = c.in_ok-nil.ensures.kept in
    let k2 = c.in_ok-last.ensures.kept in
    let k3 = c.in_ok-both.ensures.kept in
    let k4 = c.in_ok-operated_step.ensures.kept in
    let a0_2 = traces-on s t1 t2 k1 k2 in
    let a0_3 = traces-on s t2 t3 a0_2 k3 in
    let e_nil = c.in_ok-nil.ensures.made in
    let x2_0last = traced-origin s t1 c.requires.run k1 c.args.to c.requires.to in
    let x2_1last = e_nil in
    let e_last = c.in_ok-last.ensures.made ∙ (λ i. make_two words.Cons (x2_0last i) (x2_1last i)) in
    let x3_0both = traced-origin s t2 c.requires.run a0_2 c.args.from c.requires.from in
    let x3_1both = e_last in
    let e_both = c.in_ok-both.ensures.made ∙ (λ i. make_two words.Cons (x3_0both i) (x3_1both i)) in
    let x4_0out = e_both in
    let n4out = ap (λ k. name_at k 0) a0_3.kernel
    ∙ get_or_from_slice_get s.kernel.names 0 _ [] (c.sound.ensures.names.first.keeps 0 _ refl) in
    record {
      made = c.in_ok-operated_step.ensures.made
          ∙ (λ i. make_two words.OpType (type_op_origin (Named (n4out i))) (x4_0out i));
      inside = c.in_ok-operated_step.ensures.inside;
      kept = search rules;
    }
