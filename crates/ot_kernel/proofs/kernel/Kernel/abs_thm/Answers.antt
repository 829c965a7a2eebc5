use Rattle.ot_logic.specs.Naming.{names}
use Rattle.ot_logic.specs.Rules.{abs_thm_rule}
use Rattle.ot_kernel.specs.Spelled.{state_of}
use Rattle.ot_kernel.specs.State.{variable_at, theorem_at}
use Rattle.ot_kernel.proofs.Later.{later_terms, held_of, held_at}
use Rattle.ot_kernel.proofs.Derived.{Ruled, ruled-binder, ruled-follows, ruled-concluded}
use Rattle.ot_kernel.proofs.kernel.Kernel.abs_thm.Goals as goal
use Rattle.ot_kernel.proofs.kernel.Kernel.abs_thm.Goals.{After-abs_thm-theorem}

ruled : (c : After-abs_thm-theorem)
    → Ruled c.abs_thm-theorem.result
    (abs_thm_rule names (variable_at c.args.self.now c.args.v) (theorem_at c.args.self.now c.args.th)) c.args.self.now
    (state_of c.self.inside.names c.abs_thm-theorem.new.terms (held_of c.self.inside))
ruled c =
    let l = later_terms _ _ _ _ _ _ c.self.view_is c.self.invariant c.requires.name c.abs_thm-theorem.ensures.grown in
    ruled-binder l _ c.requires.name c.requires.ty _ _ (held_at l _ _ _ c.requires.th c.index.ensures c.th.view_is) _
    c.abs_thm-theorem.ensures.derives

pub invariant_of-self : goal.invariant_of-self
invariant_of-self c =
    (later_terms _ _ _ _ _ _ c.self.view_is c.self.invariant c.requires.name c.abs_thm-theorem.ensures.grown).kernel

pub derived-requires : goal.derived-requires
derived-requires c = ruled-follows _ (ruled (goal.at.derived-requires c).After-abs_thm-theorem)

pub returns-clause-concludes : goal.returns-clause-concludes
returns-clause-concludes c =
    (ruled-concluded _ _ _ (ruled (goal.at.returns-clause-concludes c).After-abs_thm-theorem)
    c.derived.ensures).concludes

pub returns-clause-keeps : goal.returns-clause-keeps
returns-clause-keeps c =
    (ruled-concluded _ _ _ (ruled (goal.at.returns-clause-keeps c).After-abs_thm-theorem) c.derived.ensures).keeps

pub returns-clause-same : goal.returns-clause-same
returns-clause-same c =
    (ruled-concluded _ _ _ (ruled (goal.at.returns-clause-same c).After-abs_thm-theorem) c.derived.ensures).same
