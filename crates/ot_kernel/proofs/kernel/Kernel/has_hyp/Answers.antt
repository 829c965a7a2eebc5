use Rattle.std.proofs.Common.{ap, ◌∙◌, slice_index_or}
use Rattle.ot_kernel.proofs.Compared.{hyp-real}
use Rattle.ot_kernel.proofs.kernel.Kernel.has_hyp.Goals as goal

pub returns : goal.returns
returns c =
    let at = ap (λ i. slice_index_or c.self.inside.theorems.items i c.index.result.now) c.th.view_is in
    hyp-real _ _ _ _ c.self.view_is c.self.invariant c.args.th c.index.result.now c.requires.th (c.index.ensures ∙ at)
    c.args.t c.has_hyp.result c.requires.t c.has_hyp.ensures
