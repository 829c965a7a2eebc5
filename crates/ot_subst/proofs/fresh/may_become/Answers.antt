use Rattle.std.proofs.Common.{true≢false, sym, ◌∙◌}
use Rattle.ot_subst.specs.Renamed.{pairs_of}
use Rattle.ot_subst.proofs.Binders.{apart_answer}
use Rattle.ot_subst.proofs.fresh.may_become.Goals as goal

pub returns-clause-ok : goal.returns-clause-ok
returns-clause-ok g c =
    apart_answer (g.N.Nodes.table c.args.terms.now) c.args.work.now.subst.now (pairs_of c.args.work.now.renamed.now)
    c.args.v.now c.args.w.now c.args.body c.requires.ready c.requires.new
    (λ m. true≢false (sym (c.meets.ensures.1 m) ∙ c.if-meets.false)) c.in_ok-catches.field-0 c.in_ok-catches.ensures.ok
