use Rattle.std.proofs.Common.{true≢false, sym, ◌∙◌}
use Rattle.ot_subst.proofs.Catching.{yes-answer, some-here, none-more}
use Rattle.ot_subst.proofs.clash.is_free_in_pairs.Goals as goal

pub returns-then-branch : goal.returns-then-branch
returns-then-branch g c =
    yes-answer
    (some-here (g.N.Nodes.table c.args.terms.now) c.args.pairs.now c.args.w.now c.loop-pair.pair-index
    c.pair-item.result c.loop-pair-test.true c.pair-item.is (c.in_ok-is_free.ensures.0 c.if-branch.true))

pub loop-pair-preserved : goal.loop-pair-preserved
loop-pair-preserved g c =
    none-more (g.N.Nodes.table c.args.terms.now) c.args.pairs.now c.args.w.now c.loop-pair.pair-index
    c.pair-item.result c.loop-pair-test.true c.pair-item.is c.loop-pair.invariant
    (λ f. true≢false (sym (c.in_ok-is_free.ensures.1 f) ∙ c.if-branch.false))
