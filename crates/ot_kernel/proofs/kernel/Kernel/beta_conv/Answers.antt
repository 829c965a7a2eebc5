use Rattle.ot_logic.specs.Naming.{names}
use Rattle.ot_logic.specs.Rules.{beta_conv_rule}
use Rattle.ot_laws.proofs.Sound.{beta_conv_rule-sound}
use Rattle.ot_laws.proofs.Tests.{tells_names}
use Rattle.ot_kernel.specs.Spelled.{state_of}
use Rattle.ot_kernel.specs.State.{term_at}
use Rattle.ot_kernel.proofs.Later.{later_names, held_of}
use Rattle.ot_kernel.proofs.Derived.{Ruled, ruled-term, ruled-follows, ruled-concluded}
use Rattle.ot_kernel.proofs.kernel.Kernel.beta_conv.Goals as goal
use Rattle.ot_kernel.proofs.kernel.Kernel.beta_conv.Goals.{After-beta_conv-theorem}

ruled : (c : After-beta_conv-theorem)
    → Ruled c.beta_conv-theorem.result (beta_conv_rule names (term_at c.args.self.now c.args.t)) c.args.self.now
    (state_of c.beta_conv-theorem.new.names c.beta_conv-theorem.new.terms (held_of c.self.inside))
ruled c =
    let l = later_names _ _ _ _ _ _ c.self.view_is c.self.invariant c.beta_conv-theorem.ensures.later
    c.beta_conv-theorem.ensures.name_table in
    ruled-term l (λ L a. beta_conv_rule a) (beta_conv_rule-sound names tells_names _ _) _ c.requires _
    c.beta_conv-theorem.ensures.derives

pub invariant_of-self : goal.invariant_of-self
invariant_of-self c =
    (later_names _ _ _ _ _ _ c.self.view_is c.self.invariant c.beta_conv-theorem.ensures.later
    c.beta_conv-theorem.ensures.name_table).kernel

pub derived-requires : goal.derived-requires
derived-requires c = ruled-follows _ (ruled (goal.at.derived-requires c).After-beta_conv-theorem)

pub returns-clause-concludes : goal.returns-clause-concludes
returns-clause-concludes c =
    (ruled-concluded _ _ _ (ruled (goal.at.returns-clause-concludes c).After-beta_conv-theorem)
    c.derived.ensures).concludes

pub returns-clause-keeps : goal.returns-clause-keeps
returns-clause-keeps c =
    (ruled-concluded _ _ _ (ruled (goal.at.returns-clause-keeps c).After-beta_conv-theorem) c.derived.ensures).keeps

pub returns-clause-same : goal.returns-clause-same
returns-clause-same c =
    (ruled-concluded _ _ _ (ruled (goal.at.returns-clause-same c).After-beta_conv-theorem) c.derived.ensures).same
