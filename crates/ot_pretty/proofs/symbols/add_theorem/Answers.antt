use Rattle.std.proofs.Common.{[], ◌∷◌, ◌++◌, ap, ◌∙◌}
use Rattle.ot_kernel.specs.State.{theorem_at}
use Rattle.ot_pretty.proofs.Roots.{adds-theorem}
use Rattle.ot_pretty.proofs.symbols.add_theorem.Goals as goal

pub returns : goal.returns
returns c =
    adds-theorem c.args.kernel.now c.args.roots.now.items c.push.new.self.items c.hyps.result.now c.concl.result
    (theorem_at c.args.kernel.now c.args.th)
    (c.in_ok-push.ensures.items ∙ ap (λ l. l ++ c.concl.result ∷ []) c.in_ok-extend_from_slice.ensures.items)
    c.hyps.ensures.hyps c.concl.ensures.concl c.hyps.ensures.inside c.concl.ensures.inside
