use Rattle.ot_log_rules.proofs.Freeing.{free-numbers}
use Rattle.ot_log_rules.proofs.abstraction.is_free.Goals as goal

pub returns-clause-ok : goal.returns-clause-ok
returns-clause-ok c =
    free-numbers c.args.nodes.now c.closed.new.nodes c.in_ok-closed.ensures.extends c.primitives.ensures.once _
    c.args.id c.in_ok-closed.closed c.ne.result c.requires.id c.in_ok-closed.ensures.ok c.ne.ensures
