use Rattle.std.proofs.Common.{sym, subst}
use Rattle.ot_logic.specs.Interned.{IsSound}
use Rattle.ot_logic.proofs.InternedLemmas.{found}
use Rattle.ot_type.specs.TypeTable.{tree_of, ArgsBelow, IsBeside}
use Rattle.ot_type.proofs.TypeTableLemmas.{node_eq, laws}
use Rattle.ot_type.proofs.table.Types.find.Goals as goal

pub returns-in-Some-clause-found : goal.returns-in-Some-clause-found
returns-in-Some-clause-found c =
    let sound = subst (IsSound tree_of ArgsBelow IsBeside c.self.inside.nodes.entries) c.self.view_is
    c.self.invariant.nodes in
    found tree_of ArgsBelow IsBeside node_eq laws _ c.args.self.now sound c.args.node.now c.in-Some.index
    (sym c.in-Some.ensures.index)
