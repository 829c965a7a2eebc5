use Rattle.ot_logic.specs.Naming.{names}
use Rattle.ot_logic.specs.Rules.{app_thm_rule}
use Rattle.ot_laws.proofs.Sound.{app_thm_rule-sound}
use Rattle.ot_laws.proofs.Tests.{tells_names}
use Rattle.ot_kernel.specs.Spelled.{state_of}
use Rattle.ot_kernel.specs.State.{theorem_at}
use Rattle.ot_kernel.proofs.Later.{later_equations, held_of, held_at}
use Rattle.ot_kernel.proofs.Derived.{Ruled, ruled-theorems, ruled-follows, ruled-concluded}
use Rattle.ot_kernel.proofs.kernel.Kernel.app_thm.Goals as goal
use Rattle.ot_kernel.proofs.kernel.Kernel.app_thm.Goals.{After-app_thm-theorem}

ruled : (c : After-app_thm-theorem)
    → Ruled c.app_thm-theorem.result
    (app_thm_rule names (theorem_at c.args.self.now c.args.lower) (theorem_at c.args.self.now c.args.top))
    c.args.self.now (state_of c.self.inside.names c.app_thm-theorem.new.terms (held_of c.self.inside))
ruled c =
    let l = later_equations _ _ _ _ _ c.self.view_is c.self.invariant c.app_thm-theorem.ensures.grown in
    ruled-theorems l (λ L a. app_thm_rule a) (app_thm_rule-sound names tells_names _ _) _ _
    (held_at l _ _ _ c.requires.lower c.index.ensures c.lower.view_is) _ _
    (held_at l _ _ _ c.requires.top c.index-2.ensures c.top.view_is) _ c.app_thm-theorem.ensures.derives

pub invariant_of-self : goal.invariant_of-self
invariant_of-self c =
    (later_equations _ _ _ _ _ c.self.view_is c.self.invariant c.app_thm-theorem.ensures.grown).kernel

pub derived-requires : goal.derived-requires
derived-requires c = ruled-follows _ (ruled (goal.at.derived-requires c).After-app_thm-theorem)

pub returns-clause-concludes : goal.returns-clause-concludes
returns-clause-concludes c =
    (ruled-concluded _ _ _ (ruled (goal.at.returns-clause-concludes c).After-app_thm-theorem)
    c.derived.ensures).concludes

pub returns-clause-keeps : goal.returns-clause-keeps
returns-clause-keeps c =
    (ruled-concluded _ _ _ (ruled (goal.at.returns-clause-keeps c).After-app_thm-theorem) c.derived.ensures).keeps

pub returns-clause-same : goal.returns-clause-same
returns-clause-same c =
    (ruled-concluded _ _ _ (ruled (goal.at.returns-clause-same c).After-app_thm-theorem) c.derived.ensures).same
