use Rattle.std.proofs.Common.{subst}
use Rattle.ot_sets.specs.Table.{tree_of, sets_of, IsBelow, Describes, AreUnions}
use Rattle.ot_sets.proofs.SetLemmas.{node_eq, laws}
use Rattle.ot_sets.proofs.UnionLemmas.{unions-later}
use Rattle.ot_type.proofs.Entering.{entered, Entered}
use Rattle.ot_sets.proofs.table.Sets.intern.Goals as goal

-- what the insert leaves
left : (c : goal.In_ok-index) → Entered tree_of IsBelow Describes node_eq c.args.self.now c.args.node
    c.insert_full.new.self.entries c.in_ok-index.index
left c = entered tree_of IsBelow Describes node_eq laws c.self.inside.nodes c.args.self.now c.self.view_is
    c.self.invariant.0 c.args.node tt c.requires tt
    c.insert_full.new.self.entries c.in_ok-index.ensures.entries c.in_ok-index.index c.in_ok-index.ensures.index

pub invariant_of-self-2 : goal.invariant_of-self-2
invariant_of-self-2 c = (
  (left c).sound,
  unions-later c.args.self.now (sets_of c.insert_full.new.self.entries) (left c).extends
      c.self.inside.unions.entries (subst (λ ts. AreUnions ts c.self.inside.unions.entries) c.self.view_is
      c.self.invariant.1),
)

pub returns-clause-ok : goal.returns-clause-ok
returns-clause-ok c = (left c).found

pub returns-clause-extends : goal.returns-clause-extends
returns-clause-extends c = (left c).extends
