use Rattle.std.proofs.Common.{◌&&◌}
use Rattle.ot_log_nodes.specs.Items.{term_at}
use Rattle.ot_log_rules.proofs.conditions.may_be_given.Goals as goal

pub returns : goal.returns
returns c =
    let t = term_at c.args.nodes.now c.args.given.term in
    let closed = c.is_closed_but-closed.ensures t c.in_ok-parts.ensures in
    let kept = c.in_ok-kept.ensures t c.in_ok-parts.ensures c.requires.typed in
    λ i. closed i && kept i
