use Rattle.std.proofs.Common.{subst}
use Rattle.ot_lists.specs.SequenceTable.{IsSequenceTable}
use Rattle.ot_lists.proofs.SequenceLemmas.{table-of}
use Rattle.ot_lists.proofs.sequence.Sequences.node.Goals as goal

pub returns-clause-table : goal.returns-clause-table
returns-clause-table c = subst IsSequenceTable c.self.view_is (table-of _ _ _ c.self.invariant)
