use Rattle.ot_subst.proofs.Catching.{catches-answer}
use Rattle.ot_subst.proofs.clash.catches.Goals as goal

pub returns-clause-ok : goal.returns-clause-ok
returns-clause-ok g c =
    catches-answer (g.N.Nodes.table c.args.terms.now) c.args.work.now.subst.now c.requires.table c.args.v.now
    c.args.w.now c.args.body c.requires.binder c.in_ok-xs.xs.items c.in_ok-xs.ensures
    c.any_is_caught.result (rw c.deref.ensures.value at c.any_is_caught.ensures.ok)
