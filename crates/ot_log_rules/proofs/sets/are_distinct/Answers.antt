use Rattle.std.proofs.Common.{nat_eq, length, ap, ◌∙◌}
use Rattle.ot_logic.specs.Naming.{numbers}
use Rattle.ot_laws.proofs.Hashed.{distinct-count}
use Rattle.ot_log_rules.proofs.sets.are_distinct.Goals as goal

pub returns : goal.returns
returns g c =
    ap (λ n. nat_eq n (length c.args.items.now)) (c.len.ensures.len ∙ ap length c.in_ok-set.ensures)
    ∙ distinct-count g.T.PartialEq.eq c.requires numbers c.args.items.now
