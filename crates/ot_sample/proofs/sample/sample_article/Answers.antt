use Rattle.std.proofs.Common.{◌++◌, ◌∙◌, ap, arith}
use Rattle.ot_sample.proofs.Lines.{sample-whole}
use Rattle.ot_sample.proofs.sample.sample_article.Goals as goal

pub returns-clause-ok : goal.returns-clause-ok
returns-clause-ok c =
    sample-whole c.args.n c.loop-k.k _ _ _ _ _ _ (omega arith) c.loop-k.invariant c.in_ok-push_redex.ensures
    c.in_ok-push_lines.ensures c.in_ok-push_exported.ensures
    (c.in_ok-extend_from_slice.ensures.items ∙ ap (λ z. c.args.out.now.items ++ z) c.deref.ensures.value)
