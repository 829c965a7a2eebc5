use Rattle.std.proofs.Common.{ap, ◌∙◌, List, ℕ, slice_index_or}
use Rattle.ot_logic.specs.Names.{Name}
use Rattle.ot_logic.specs.Trees.{Sequent}
use Rattle.ot_kernel.specs.State.{terms_at}
use Rattle.ot_kernel.proofs.Later.{held_of}
use Rattle.ot_kernel.proofs.Theorems.{real_theorem}
use Rattle.ot_kernel.proofs.kernel.Kernel.hyps.Goals as goal

pub returns-clause-hyps : goal.returns-clause-hyps
returns-clause-hyps c =
    let at = ap (λ i. slice_index_or c.self.inside.theorems.items i c.index.result.now) c.th.view_is in
    ap (λ (is : List ℕ). terms_at c.args.self.now is) c.deref.ensures.value
    ∙ ap (λ (q : Sequent Name). q.hyps)
    (real_theorem c.self.inside.names c.self.inside.terms (held_of c.self.inside) _ c.self.view_is c.args.th
    c.index.result.now c.requires (c.index.ensures ∙ at))
