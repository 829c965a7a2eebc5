use Rattle.ot_subst.proofs.Catching.{candidates_all, candidates_named}
use Rattle.ot_subst.proofs.clash.candidates.Goals as goal

pub returns-then-branch : goal.returns-then-branch
returns-then-branch g c =
    candidates_all c.free_vars.result (g.N.Nodes.table c.args.terms.now) c.args.subst.now c.args.w.now c.args.body
    c.free_vars.ensures.within c.free_vars.ensures.free

pub returns : goal.returns
returns g c =
    candidates_named c.free_named.result (g.N.Nodes.table c.args.terms.now) c.args.subst.now c.args.w.now c.args.body
    (c.in_ok-may_be_put_in.ensures c.if-branch.false) c.free_named.ensures.within
    c.free_named.ensures.free
