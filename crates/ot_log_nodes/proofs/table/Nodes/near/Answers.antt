use Rattle.ot_log_nodes.specs.Items.{term_at}
use Rattle.ot_log_nodes.specs.Lists.{types_of}
use Rattle.ot_log_nodes.proofs.TypingLemmas.{cut-nothing}
use Rattle.ot_log_nodes.proofs.table.Nodes.near.Goals as goal

pub returns-else-met-clause-cut : goal.returns-else-met-clause-cut
returns-else-met-clause-cut c = cut-nothing c.args.self.now (term_at c.args.self.now c.args.id)
    (types_of c.args.lists.now c.args.binders)
