use Rattle.ot_logic.specs.Naming.{names}
use Rattle.ot_logic.specs.Rules.{deduct_antisym_rule}
use Rattle.ot_laws.proofs.Sound.{deduct_antisym_rule-sound}
use Rattle.ot_laws.proofs.Tests.{tells_names}
use Rattle.ot_kernel.specs.Spelled.{state_of}
use Rattle.ot_kernel.specs.State.{theorem_at}
use Rattle.ot_kernel.proofs.Later.{later_equations, unchanged, held_of, held_at}
use Rattle.ot_kernel.proofs.Derived.{Ruled, ruled-theorems, ruled-follows, ruled-concluded, numbered_is_sequent}
use Rattle.ot_kernel.proofs.kernel.Kernel.deduct_antisym.Goals as goal
use Rattle.ot_kernel.proofs.kernel.Kernel.deduct_antisym.Goals.{After-deduct_antisym-theorem}

pub deduct_antisym-theorem-requires-clause-lower_sequent : goal.deduct_antisym-theorem-requires-clause-lower_sequent
deduct_antisym-theorem-requires-clause-lower_sequent c = let l = unchanged _ _ _ _ c.self.view_is c.self.invariant in
    numbered_is_sequent l _ _ (held_at l _ _ _ c.requires.lower c.index.ensures c.lower.view_is)

pub deduct_antisym-theorem-requires-clause-top_sequent : goal.deduct_antisym-theorem-requires-clause-top_sequent
deduct_antisym-theorem-requires-clause-top_sequent c = let l = unchanged _ _ _ _ c.self.view_is c.self.invariant in
    numbered_is_sequent l _ _ (held_at l _ _ _ c.requires.top c.index-2.ensures c.top.view_is)

ruled : (c : After-deduct_antisym-theorem)
    → Ruled c.deduct_antisym-theorem.result
    (deduct_antisym_rule names (theorem_at c.args.self.now c.args.lower) (theorem_at c.args.self.now c.args.top))
    c.args.self.now (state_of c.self.inside.names c.deduct_antisym-theorem.new.terms (held_of c.self.inside))
ruled c =
    let l = later_equations _ _ _ _ _ c.self.view_is c.self.invariant c.deduct_antisym-theorem.ensures.grown in
    ruled-theorems l (λ L a. deduct_antisym_rule a) (deduct_antisym_rule-sound names tells_names _ _) _ _
    (held_at l _ _ _ c.requires.lower c.index.ensures c.lower.view_is) _ _
    (held_at l _ _ _ c.requires.top c.index-2.ensures c.top.view_is) _ c.deduct_antisym-theorem.ensures.derives

pub invariant_of-self : goal.invariant_of-self
invariant_of-self c =
    (later_equations _ _ _ _ _ c.self.view_is c.self.invariant c.deduct_antisym-theorem.ensures.grown).kernel

pub derived-requires : goal.derived-requires
derived-requires c = ruled-follows _ (ruled (goal.at.derived-requires c).After-deduct_antisym-theorem)

pub returns-clause-concludes : goal.returns-clause-concludes
returns-clause-concludes c =
    (ruled-concluded _ _ _ (ruled (goal.at.returns-clause-concludes c).After-deduct_antisym-theorem)
    c.derived.ensures).concludes

pub returns-clause-keeps : goal.returns-clause-keeps
returns-clause-keeps c =
    (ruled-concluded _ _ _ (ruled (goal.at.returns-clause-keeps c).After-deduct_antisym-theorem)
    c.derived.ensures).keeps

pub returns-clause-same : goal.returns-clause-same
returns-clause-same c =
    (ruled-concluded _ _ _ (ruled (goal.at.returns-clause-same c).After-deduct_antisym-theorem)
    c.derived.ensures).same
