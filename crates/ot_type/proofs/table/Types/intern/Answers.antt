use Rattle.std.proofs.Common.{inl, inr, arith}
use Rattle.ot_type.specs.TypeTable.{tree_of, ArgsBelow, Describes}
use Rattle.ot_type.proofs.Entering.{entered, Entered}
use Rattle.ot_type.proofs.NamesIn.{names_in-push}
use Rattle.ot_type.proofs.TypeTableLemmas.{node_eq, laws, type_sound}
use Rattle.ot_type.proofs.table.Types.intern.Goals as goal

-- what the insert leaves
left : (c : goal.In_ok-index) → Entered tree_of ArgsBelow Describes node_eq c.args.self.now c.args.node
    c.insert_full.new.self.entries c.in_ok-index.index
left c = entered tree_of ArgsBelow Describes node_eq laws c.self.inside.nodes c.args.self.now c.self.view_is
    c.self.invariant.nodes c.args.node c.args.beside c.requires.args c.requires.beside
    c.insert_full.new.self.entries c.in_ok-index.ensures.entries c.in_ok-index.index c.in_ok-index.ensures.index

pub invariant_of-self-2 : goal.invariant_of-self-2
invariant_of-self-2 c = type_sound _ _ (left c).sound

pub returns-clause-ok : goal.returns-clause-ok
returns-clause-ok c = (left c).found

pub returns-clause-extends : goal.returns-clause-extends
returns-clause-extends c = (left c).extends

pub returns-clause-table : goal.returns-clause-table
returns-clause-table c = (type_sound _ _ (left c).sound).table

pub returns-clause-names : goal.returns-clause-names
returns-clause-names c = elim (left c).grown [
  | inl same ↦ rw same (omega arith)
  | inr more ↦ rw more (names_in-push _ _)
]
