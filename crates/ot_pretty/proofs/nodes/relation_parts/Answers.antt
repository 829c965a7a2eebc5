use Rattle.ot_pretty.proofs.Relations.{no-head}
use Rattle.ot_pretty.proofs.nodes.relation_parts.Goals as goal

pub returns-in-None-clause-none : goal.returns-in-None-clause-none
returns-in-None-clause-none c = λ e. no-head c.args.notation.now e _ _ _ (rw c.in-App.is at c.term_node.ensures.tree)
    c.in-None.ensures.none
