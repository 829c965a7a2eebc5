use Rattle.std.proofs.Common.{sym, subst}
use Rattle.ot_logic.specs.Table.{Extends}
use Rattle.ot_logic.proofs.TableLemmas.{Extends-insert_key}
use Rattle.ot_lists.specs.SequenceTable.{SequenceTable, IsSequenceTable}
use Rattle.ot_lists.specs.Sequences.{sequences_of, AreSequences}
use Rattle.ot_lists.proofs.SequenceLemmas.{key_eq, keys-once, table-of, sound-keys}
use Rattle.ot_lists.proofs.sequence.Sequences.number.Goals as goal
use Rattle.ot_lists.proofs.sequence.Sequences.number.Goals.{In_ok-index}

pub returns-in_err-unless_full-clause-table : goal.returns-in_err-unless_full-clause-table
returns-in_err-unless_full-clause-table c = subst IsSequenceTable c.self.view_is (table-of _ _ _ c.self.invariant)

pub returns-in_err-index-clause-table : goal.returns-in_err-index-clause-table
returns-in_err-index-clause-table c =
    table-of c.insert_full.new.self.keys _ _
    (subst (λ ks. AreSequences ks c.self.inside.nodes.entries (sequences_of c.self.inside.nodes.entries))
    (sym c.in_err-index.ensures.err) c.self.invariant)

-- the variables after the insert
extends : (c : In_ok-index) → Extends c.self.inside.keys.keys c.insert_full.new.self.keys
extends c = subst (Extends c.self.inside.keys.keys) (sym c.in_ok-index.ensures.keys)
    (Extends-insert_key key_eq c.self.inside.keys.keys c.args.key)

sound : (c : In_ok-index) → AreSequences c.insert_full.new.self.keys c.self.inside.nodes.entries
    (sequences_of c.self.inside.nodes.entries)
sound c = sound-keys c.self.inside.keys.keys c.insert_full.new.self.keys c.self.inside.nodes.entries
    (sequences_of c.self.inside.nodes.entries) (extends c)
    (keys-once c.insert_full.new.self.keys c.insert_full.ensures.unique) c.self.invariant

pub invariant_of-self-2 : goal.invariant_of-self-2
invariant_of-self-2 c = sound ((goal.at.invariant_of-self-2 c).In_ok-index)

pub returns-clause-keys : goal.returns-clause-keys
returns-clause-keys c =
    subst (λ (t : SequenceTable). Extends t.keys c.insert_full.new.self.keys) c.self.view_is
    (extends ((goal.at.returns-clause-keys c).In_ok-index))

pub returns-clause-table : goal.returns-clause-table
returns-clause-table c = table-of _ _ _ (sound ((goal.at.returns-clause-table c).In_ok-index))
