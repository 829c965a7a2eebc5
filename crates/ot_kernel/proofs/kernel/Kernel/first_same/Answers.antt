use Rattle.std.proofs.Common.{◌≡◌, ◌+◌, cond, Some, List, ℕ, drop, map, sym, ap, ◌∙◌}
use Rattle.std.specs.Prelude.{find}
use Rattle.ot_logic.specs.Hol.{same_sequent}
use Rattle.ot_logic.specs.Naming.{names}
use Rattle.ot_kernel.specs.State.{term_at, terms_at, theorem_at}
use Rattle.ot_kernel.specs.Spelled.{sequent_of}
use Rattle.ot_kernel.proofs.Supposed.{find-next}
use Rattle.ot_kernel.proofs.kernel.Kernel.first_same.Goals as goal
use Rattle.ot_kernel.proofs.kernel.Kernel.first_same.Goals.{After-same}

tested : (c : After-same) → c.same.result ≡ same_sequent names (theorem_at c.args.self.now c.id-item.result)
    (sequent_of c.args.self.now.terms c.args.theorem.now)
tested c =
    let s = c.args.self.now in
    c.same.ensures
    ∙ ap (λ (is : List ℕ). same_sequent names (theorem_at s c.id-item.result)
    (record { hyps = terms_at s is; concl = term_at s c.args.theorem.now.concl })) c.deref.ensures.value

next : (c : After-same) → find (λ r. same_sequent names r (sequent_of c.args.self.now.terms c.args.theorem.now))
    (map (theorem_at c.args.self.now) c.args.among.now)
    ≡ cond c.same.result (Some (theorem_at c.args.self.now c.id-item.result))
    (find (λ r. same_sequent names r (sequent_of c.args.self.now.terms c.args.theorem.now))
    (map (theorem_at c.args.self.now) (drop (c.loop-id.id-index + 1) c.args.among.now)))
next c = c.loop-id.invariant ∙ find-next (theorem_at c.args.self.now) _ c.args.among.now c.loop-id.id-index
    c.id-item.result c.same.result c.loop-id-test.true c.id-item.is (tested c)

pub returns-then-same-clause-first : goal.returns-then-same-clause-first
returns-then-same-clause-first c =
    sym (rw c.if-same.true at (next (goal.at.returns-then-same-clause-first c).After-same))

pub loop-id-preserved : goal.loop-id-preserved
loop-id-preserved c = rw c.if-same.false at (next (goal.at.loop-id-preserved c).After-same)
