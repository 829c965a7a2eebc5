use Rattle.std.proofs.Common.{◌≡◌, Some, slice_get, sym, subst, rules}
use Rattle.ot_lists.specs.SequenceTable.{SequenceTable, IsSequenceTable, IsNumberOf}
use Rattle.std.proofs.Common.{None}
use Rattle.ot_lists.proofs.SequenceLemmas.{key-found, key-missing, table-of}
use Rattle.ot_lists.proofs.sequence.Sequences.number_of.Goals as goal

pub returns-in-None-clause-number : goal.returns-in-None-clause-number
returns-in-None-clause-number c =
    subst (λ (t : SequenceTable). IsNumberOf t.keys c.args.key.now None) c.self.view_is
    (key-missing c.self.inside.keys.keys c.args.key.now (sym c.in-None.ensures.found))

pub returns-in-None-clause-table : goal.returns-in-None-clause-table
returns-in-None-clause-table c = subst IsSequenceTable c.self.view_is (table-of _ _ _ c.self.invariant)

pub returns-in_ok-unless_full-in-Some-clause-number : goal.returns-in_ok-unless_full-in-Some-clause-number
returns-in_ok-unless_full-in-Some-clause-number c =
    let found : slice_get c.self.inside.keys.keys c.in-Some.index ≡ Some c.args.key.now =
    key-found c.self.inside.keys.keys c.args.key.now c.in-Some.index (sym c.in-Some.ensures.index) in
    rw (← c.self.view_is) (search (rules, found))

pub returns-in_ok-unless_full-in-Some-clause-table : goal.returns-in_ok-unless_full-in-Some-clause-table
returns-in_ok-unless_full-in-Some-clause-table c = subst IsSequenceTable c.self.view_is (table-of _ _ _ c.self.invariant)

pub returns-in_err-unless_full-in-Some-clause-table : goal.returns-in_err-unless_full-in-Some-clause-table
returns-in_err-unless_full-in-Some-clause-table c = subst IsSequenceTable c.self.view_is (table-of _ _ _ c.self.invariant)
