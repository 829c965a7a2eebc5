use Rattle.std.proofs.Common.{sym, subst}
use Rattle.ot_lists.specs.SequenceTable.{IsSequenceTable}
use Rattle.ot_lists.proofs.SequenceLemmas.{node-extent, table-of}
use Rattle.ot_lists.proofs.sequence.Sequences.extent.Goals as goal

pub returns-clause-describes : goal.returns-clause-describes
returns-clause-describes c = rw (← c.self.view_is, ← c.id.view_is)
    (node-extent _ _ _ c.self.invariant c.id.inside.0 _ _ (sym c.in-Some.ensures.entry))

pub returns-clause-table : goal.returns-clause-table
returns-clause-table c = subst IsSequenceTable c.self.view_is (table-of _ _ _ c.self.invariant)
