use Rattle.std.specs.List.{All}
use Rattle.std.proofs.Common.{◌<◌, length, map, ap, subst, sym, ◌∙◌}
use Rattle.std.proofs.lemmas.List.{take_all}
use Rattle.std.proofs.lemmas.List.Elements.{All-map}
use Rattle.ot_machine.specs.declared.context.Given.{Given}
use Rattle.ot_machine.proofs.session.Session.candidates_of.Goals as goal

pub candidates-requires : goal.candidates-requires
candidates-requires c =
    let k = c.args.self.now.kernel in
    let gs = c.args.theorems.now in
    let all = c.loop-given.invariant
    ∙ ap (map (λ (g : Given). g.th)) (take_all c.loop-given.given-index gs c.loop-given-test.false) in
    subst (All (λ th. th < length k.theorems)) (sym all)
    (All-map (λ th. th < length k.theorems) (λ (g : Given). g.th) gs c.requires)
