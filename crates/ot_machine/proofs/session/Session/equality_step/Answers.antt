use Rattle.std.specs.Prelude.{[]}
use Rattle.std.proofs.Common.{rules, refl, ap, ◌∙◌}
use Rattle.std.proofs.lemmas.Option.{get_or_from_slice_get}
use Rattle.ot_kernel.specs.State.{name_at}
use Rattle.ot_machine.specs.OpenTypes.{fun_origin, constant_at}
use Rattle.ot_machine.proofs.Traced.{traces-on, traced-origin}
use Rattle.ot_machine.proofs.session.Session.equality_step.Goals as goal

pub returns : goal.returns
returns c =
    let s = c.args.self.now in
    let of = c.requires.run in
    let one = c.in_ok-truth.ensures in
    let two = c.in_ok-test.ensures in
    let three = c.in_ok-whole.ensures in
    let both = traces-on _ _ _ one.kept two.kept in
    let all = traces-on _ _ _ both three.kept in
    let inner = traced-origin _ _ of one.kept c.args.ty c.requires.ty in
    let outer = traced-origin _ _ of both c.args.ty c.requires.ty in
    let test = two.made ∙ (λ i. fun_origin (inner i) (one.made i)) in
    let whole = three.made ∙ (λ i. fun_origin (outer i) (test i)) in
    let name = ap (λ k. name_at k 2) all.kernel
    ∙ get_or_from_slice_get s.kernel.names 2 _ [] (c.sound.ensures.names.first.keeps 2 _ refl) in
    record {
      made = c.in_ok-constant_step.ensures.made ∙ (λ i. constant_at (name i) (whole i));
      inside = c.in_ok-constant_step.ensures.inside;
      kept = search rules;
    }
