use Rattle.std.specs.List.{list_all, list_any}
use Rattle.std.proofs.Common.{ap, ◌∙◌}
use Rattle.ot_define.proofs.Hashed.{among-set}
use Rattle.ot_define.proofs.sets.are_among.Goals as goal

pub returns : goal.returns
returns g c =
    c.has_all.ensures ∙ ap (λ ks. list_all (λ x. list_any (g.T.PartialEq.eq x) ks) c.args.items.now)
    c.in_ok-set.ensures ∙ among-set g.T.PartialEq.eq c.requires c.args.items.now c.args.others.now
