use Rattle.ot_logic.specs.Naming.{names}
use Rattle.ot_logic.specs.Rules.{sym_rule}
use Rattle.ot_laws.proofs.Sound.{sym_rule-sound}
use Rattle.ot_laws.proofs.Tests.{tells_names}
use Rattle.ot_kernel.specs.Spelled.{state_of}
use Rattle.ot_kernel.specs.State.{theorem_at}
use Rattle.ot_kernel.proofs.Later.{later_equations, held_of, held_at}
use Rattle.ot_kernel.proofs.Derived.{Ruled, ruled-theorem, ruled-follows, ruled-concluded}
use Rattle.ot_kernel.proofs.kernel.Kernel.sym.Goals as goal
use Rattle.ot_kernel.proofs.kernel.Kernel.sym.Goals.{After-sym-theorem}

ruled : (c : After-sym-theorem) → Ruled c.sym-theorem.result (sym_rule names (theorem_at c.args.self.now c.args.th))
    c.args.self.now (state_of c.self.inside.names c.sym-theorem.new.terms (held_of c.self.inside))
ruled c =
    let l = later_equations _ _ _ _ _ c.self.view_is c.self.invariant c.sym-theorem.ensures.grown in
    ruled-theorem l (λ L a. sym_rule a) (sym_rule-sound names tells_names _ _) _ _
    (held_at l _ _ _ c.requires c.index.ensures c.th.view_is) _ c.sym-theorem.ensures.derives

pub invariant_of-self : goal.invariant_of-self
invariant_of-self c = (later_equations _ _ _ _ _ c.self.view_is c.self.invariant c.sym-theorem.ensures.grown).kernel

pub derived-requires : goal.derived-requires
derived-requires c = ruled-follows _ (ruled (goal.at.derived-requires c).After-sym-theorem)

pub returns-clause-concludes : goal.returns-clause-concludes
returns-clause-concludes c =
    (ruled-concluded _ _ _ (ruled (goal.at.returns-clause-concludes c).After-sym-theorem) c.derived.ensures).concludes

pub returns-clause-keeps : goal.returns-clause-keeps
returns-clause-keeps c =
    (ruled-concluded _ _ _ (ruled (goal.at.returns-clause-keeps c).After-sym-theorem) c.derived.ensures).keeps

pub returns-clause-same : goal.returns-clause-same
returns-clause-same c =
    (ruled-concluded _ _ _ (ruled (goal.at.returns-clause-same c).After-sym-theorem) c.derived.ensures).same
