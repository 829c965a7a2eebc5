use Rattle.ot_logic.specs.Naming.{names}
use Rattle.ot_logic.specs.Rules.{refl_rule}
use Rattle.ot_laws.proofs.Sound.{refl_rule-sound}
use Rattle.ot_laws.proofs.Tests.{tells_names}
use Rattle.ot_kernel.specs.Spelled.{state_of}
use Rattle.ot_kernel.specs.State.{term_at}
use Rattle.ot_kernel.proofs.Later.{later_equations, held_of}
use Rattle.ot_kernel.proofs.Derived.{Ruled, ruled-term, ruled-follows, ruled-concluded}
use Rattle.ot_kernel.proofs.kernel.Kernel.refl.Goals as goal
use Rattle.ot_kernel.proofs.kernel.Kernel.refl.Goals.{After-refl-theorem}

ruled : (c : After-refl-theorem) → Ruled c.refl-theorem.result (refl_rule names (term_at c.args.self.now c.args.t))
    c.args.self.now (state_of c.self.inside.names c.refl-theorem.new.terms (held_of c.self.inside))
ruled c =
    let l = later_equations _ _ _ _ _ c.self.view_is c.self.invariant c.refl-theorem.ensures.grown in
    ruled-term l (λ L a. refl_rule a) (refl_rule-sound names tells_names _ _) _ c.requires _
    c.refl-theorem.ensures.derives

pub invariant_of-self : goal.invariant_of-self
invariant_of-self c = (later_equations _ _ _ _ _ c.self.view_is c.self.invariant c.refl-theorem.ensures.grown).kernel

pub derived-requires : goal.derived-requires
derived-requires c = ruled-follows _ (ruled (goal.at.derived-requires c).After-refl-theorem)

pub returns-clause-concludes : goal.returns-clause-concludes
returns-clause-concludes c =
    (ruled-concluded _ _ _ (ruled (goal.at.returns-clause-concludes c).After-refl-theorem)
    c.derived.ensures).concludes

pub returns-clause-keeps : goal.returns-clause-keeps
returns-clause-keeps c =
    (ruled-concluded _ _ _ (ruled (goal.at.returns-clause-keeps c).After-refl-theorem) c.derived.ensures).keeps

pub returns-clause-same : goal.returns-clause-same
returns-clause-same c =
    (ruled-concluded _ _ _ (ruled (goal.at.returns-clause-same c).After-refl-theorem) c.derived.ensures).same
