use Rattle.ot_subst.proofs.Catching.{put_in_answer}
use Rattle.ot_subst.proofs.clash.may_be_put_in.Goals as goal

pub returns-then-is_empty : goal.returns-then-is_empty
returns-then-is_empty g c =
    put_in_answer c.is_free_in_pairs.result (g.N.Nodes.table c.args.terms.now) c.args.subst.now c.args.w.now
    c.terms.result.0.now c.terms.result.1.now.entries c.terms.ensures
    (c.is_empty.ensures.0 c.if-is_empty.true) c.is_free_in_pairs.ensures
