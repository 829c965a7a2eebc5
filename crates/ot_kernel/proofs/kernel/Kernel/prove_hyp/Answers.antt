use Rattle.ot_logic.specs.Naming.{names}
use Rattle.ot_logic.specs.Rules.{prove_hyp_rule}
use Rattle.ot_laws.proofs.Sound.{prove_hyp_rule-sound}
use Rattle.ot_laws.proofs.Tests.{tells_names}
use Rattle.ot_kernel.specs.State.{theorem_at}
use Rattle.ot_kernel.proofs.Later.{unchanged, held_at}
use Rattle.ot_kernel.proofs.Derived.{Ruled, ruled-theorems, ruled-follows, ruled-concluded}
use Rattle.ot_kernel.proofs.kernel.Kernel.prove_hyp.Goals as goal
use Rattle.ot_kernel.proofs.kernel.Kernel.prove_hyp.Goals.{After-prove_hyp-theorem}

ruled : (c : After-prove_hyp-theorem)
    → Ruled c.prove_hyp-theorem.result (prove_hyp_rule names (theorem_at c.args.self.now c.args.lower)
    (theorem_at c.args.self.now c.args.top)) c.args.self.now c.args.self.now
ruled c =
    let l = unchanged _ _ _ _ c.self.view_is c.self.invariant in
    ruled-theorems l (λ L a. prove_hyp_rule a) (prove_hyp_rule-sound names tells_names _ _) _ _
    (held_at l _ _ _ c.requires.lower c.index.ensures c.lower.view_is) _ _
    (held_at l _ _ _ c.requires.top c.index-2.ensures c.top.view_is) _ c.prove_hyp-theorem.ensures.derives

pub derived-requires : goal.derived-requires
derived-requires c = ruled-follows _ (ruled (goal.at.derived-requires c).After-prove_hyp-theorem)

pub returns-clause-concludes : goal.returns-clause-concludes
returns-clause-concludes c =
    (ruled-concluded _ _ _ (ruled (goal.at.returns-clause-concludes c).After-prove_hyp-theorem)
    c.derived.ensures).concludes

pub returns-clause-keeps : goal.returns-clause-keeps
returns-clause-keeps c =
    (ruled-concluded _ _ _ (ruled (goal.at.returns-clause-keeps c).After-prove_hyp-theorem) c.derived.ensures).keeps

pub returns-clause-same : goal.returns-clause-same
returns-clause-same c =
    (ruled-concluded _ _ _ (ruled (goal.at.returns-clause-same c).After-prove_hyp-theorem) c.derived.ensures).same
