use Rattle.std.proofs.Common.{rules, ◌∙◌}
use Rattle.ot_machine.specs.Version5.{app}
use Rattle.ot_machine.proofs.Traced.{traces-on, traced-origin}
use Rattle.ot_machine.proofs.session.Session.equation_step.Goals as goal

pub returns : goal.returns
returns c =
    let of = c.requires.run in
    let one = c.in_ok-round.ensures in
    let two = c.in_ok-left.ensures in
    let both = traces-on _ _ _ one.kept two.kept in
    let equality = traced-origin _ _ of one.kept c.args.constants.equality c.requires.equality in
    let r = traced-origin _ _ of both c.args.r c.requires.r in
    let left = two.made ∙ (λ i. app (equality i) (one.made i)) in
    record {
      made = c.in_ok-made_of.ensures.made ∙ (λ i. app (left i) (r i));
      inside = c.in_ok-made_of.ensures.inside;
      kept = search rules;
    }
