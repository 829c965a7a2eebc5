use Rattle.ot_logic.specs.Naming.{names}
use Rattle.ot_logic.specs.Rules.{subst_rule}
use Rattle.ot_kernel.specs.Spelled.{state_of}
use Rattle.ot_kernel.specs.State.{theorem_at}
use Rattle.ot_kernel.specs.Pairs.{type_pairs, term_pairs}
use Rattle.ot_kernel.proofs.Later.{later_names, unchanged, held_of, held_at}
use Rattle.ot_kernel.proofs.Derived.{Ruled, ruled-subst, ruled-follows, ruled-concluded, numbered_subst}
use Rattle.ot_kernel.proofs.kernel.Kernel.subst.Goals as goal
use Rattle.ot_kernel.proofs.kernel.Kernel.subst.Goals.{After-subst-theorem}

pub subst-theorem-requires-clause-subst : goal.subst-theorem-requires-clause-subst
subst-theorem-requires-clause-subst c =
    numbered_subst (unchanged _ _ _ _ c.self.view_is c.self.invariant) _ c.requires.subst

ruled : (c : After-subst-theorem)
    → Ruled c.subst-theorem.result
    (subst_rule names (type_pairs c.args.self.now c.args.s.now.types) (term_pairs c.args.self.now c.args.s.now)
    (theorem_at c.args.self.now c.args.th)) c.args.self.now
    (state_of c.subst-theorem.new.names c.subst-theorem.new.terms (held_of c.self.inside))
ruled c =
    let l = later_names _ _ _ _ _ _ c.self.view_is c.self.invariant c.subst-theorem.ensures.later
    c.subst-theorem.ensures.name_table in
    ruled-subst l _ c.requires.subst _ _ (held_at l _ _ _ c.requires.th c.index.ensures c.th.view_is) _
    c.subst-theorem.ensures.derives

pub invariant_of-self : goal.invariant_of-self
invariant_of-self c =
    (later_names _ _ _ _ _ _ c.self.view_is c.self.invariant c.subst-theorem.ensures.later
    c.subst-theorem.ensures.name_table).kernel

pub derived-requires : goal.derived-requires
derived-requires c = ruled-follows _ (ruled (goal.at.derived-requires c).After-subst-theorem)

pub returns-clause-concludes : goal.returns-clause-concludes
returns-clause-concludes c =
    (ruled-concluded _ _ _ (ruled (goal.at.returns-clause-concludes c).After-subst-theorem)
    c.derived.ensures).concludes

pub returns-clause-keeps : goal.returns-clause-keeps
returns-clause-keeps c =
    (ruled-concluded _ _ _ (ruled (goal.at.returns-clause-keeps c).After-subst-theorem) c.derived.ensures).keeps

pub returns-clause-same : goal.returns-clause-same
returns-clause-same c =
    (ruled-concluded _ _ _ (ruled (goal.at.returns-clause-same c).After-subst-theorem) c.derived.ensures).same
