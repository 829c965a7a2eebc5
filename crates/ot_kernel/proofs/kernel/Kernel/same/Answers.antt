use Rattle.std.proofs.Common.{ap, ◌∙◌, slice_index_or}
use Rattle.ot_kernel.proofs.Theorems.{same-real}
use Rattle.ot_kernel.proofs.kernel.Kernel.same.Goals as goal

pub returns : goal.returns
returns c =
    let at = ap (λ i. slice_index_or c.self.inside.theorems.items i c.index.result.now) c.th.view_is in
    same-real _ _ _ _ c.self.view_is c.self.invariant c.args.th c.index.result.now c.args.hyps.now c.args.concl
    c.states.result c.requires.th (c.index.ensures ∙ at) c.requires.hyps c.requires.concl c.states.ensures
