use Rattle.std.proofs.Common.{sym}
use Rattle.ot_log_nodes.proofs.table.Nodes.entry.Goals as goal

pub returns-clause-entry : goal.returns-clause-entry
returns-clause-entry c =
    rw (← c.self.view_is) (c.self.invariant.nodes.entries c.args.index _ _ (sym c.in-Some.ensures.entry))
