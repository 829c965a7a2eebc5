use Rattle.std.proofs.Common.{sym, subst}
use Rattle.ot_lists.specs.SequenceTable.{IsSequenceTable}
use Rattle.ot_lists.specs.Sequences.{sequences_of, AreSequences}
use Rattle.ot_lists.proofs.SequenceLemmas.{node-found, table-of, Put, put}
use Rattle.ot_lists.proofs.sequence.Sequences.intern.Goals as goal
use Rattle.ot_lists.proofs.sequence.Sequences.intern.Goals.{In_ok-index}

pub returns-in_err-unless_full-clause-table : goal.returns-in_err-unless_full-clause-table
returns-in_err-unless_full-clause-table c = subst IsSequenceTable c.self.view_is (table-of _ _ _ c.self.invariant)

pub returns-in-Some-clause-ok : goal.returns-in-Some-clause-ok
returns-in-Some-clause-ok c = rw (← c.self.view_is)
    (node-found _ _ _ c.self.invariant c.args.node c.in-Some.index (sym c.in-Some.ensures.index))

pub returns-in-Some-clause-table : goal.returns-in-Some-clause-table
returns-in-Some-clause-table c = subst IsSequenceTable c.self.view_is (table-of _ _ _ c.self.invariant)

pub returns-in_err-index-clause-table : goal.returns-in_err-index-clause-table
returns-in_err-index-clause-table c =
    table-of c.self.inside.keys.keys _ _
    (subst (λ es. AreSequences c.self.inside.keys.keys es (sequences_of es)) (sym c.in_err-index.ensures.err)
    c.self.invariant)

-- what the insert leaves
left : (c : In_ok-index) → Put c.args.self.now c.self.inside.keys.keys c.args.node c.insert_full.new.self.entries
    c.in_ok-index.index
left c = put c.self.inside.keys.keys c.self.inside.nodes c.self.invariant c.args.self.now c.self.view_is c.args.node
    c.args.extent c.requires.below c.requires.beside (sym c.in_default.ensures.index) c.insert_full.new.self.entries
    c.in_ok-index.ensures.entries c.in_ok-index.index c.in_ok-index.ensures.index

pub invariant_of-self-2 : goal.invariant_of-self-2
invariant_of-self-2 c = (left ((goal.at.invariant_of-self-2 c).In_ok-index)).sound

pub returns-clause-ok : goal.returns-clause-ok
returns-clause-ok c = (left ((goal.at.returns-clause-ok c).In_ok-index)).found

pub returns-clause-grows : goal.returns-clause-grows
returns-clause-grows c = (left ((goal.at.returns-clause-grows c).In_ok-index)).grows

pub returns-clause-table : goal.returns-clause-table
returns-clause-table c = table-of _ _ _ (left ((goal.at.returns-clause-table c).In_ok-index)).sound
