use Rattle.std.proofs.Common.{sym, subst, ap, ◌∙◌, is_some, true≢false}
use Rattle.ot_subst.specs.Renamed.{Meets, pairs_of}
use Rattle.ot_subst.proofs.Binders.{clash-put, may_stay, uncaught-untyped, clash_answer}
use Rattle.ot_subst.proofs.clash.clashes.Goals as goal
use Rattle.ot_subst.proofs.clash.clashes.Goals.{then-meets-via-then-meets, then-meets-via-else-meets+then-is_some}

pub returns-then-meets-clause-ok : goal.returns-then-meets-clause-ok
returns-then-meets-clause-ok g c nil = elim c.then-meets.branch [
  | then-meets-via-then-meets w ↦ let met = c.meets.ensures.0 w.if-meets.true in
      absurd (subst (λ r. Meets r c.args.v.now c.args.w.now) nil met)
  | then-meets-via-else-meets+then-is_some w ↦
      clash-put (g.N.Nodes.table c.args.terms.now) c.args.work.now.subst.now (pairs_of c.args.work.now.renamed.now)
      c.args.v.now c.args.w.now c.args.body c.requires.ready c.requires.binder c.requires.new c.requires.instance
      (sym (w.is_some.ensures ∙ ap is_some w.get.ensures) ∙ w.if-is_some.true)
]

pub returns-then-not-branch-clause-ok : goal.returns-then-not-branch-clause-ok
returns-then-not-branch-clause-ok g c =
    may_stay (g.N.Nodes.table c.args.terms.now) c.args.work.now.subst.now (pairs_of c.args.work.now.renamed.now)
    c.args.v.now c.args.w.now c.args.body c.requires.ready c.requires.binder c.requires.new c.requires.instance
    (λ m. true≢false (sym (c.meets.ensures.1 m) ∙ c.if-meets.false))
    (sym (c.is_some.ensures ∙ ap is_some c.get.ensures) ∙ c.if-is_some.false)
    (uncaught-untyped (g.N.Nodes.table c.args.terms.now) c.args.work.now.subst.now
    (pairs_of c.args.work.now.renamed.now) c.args.v.now c.args.w.now c.args.body c.requires.ready c.requires.binder c.requires.new c.requires.instance
    (sym c.types.ensures ∙ c.is_empty.ensures.0 c.if-is_empty.true)
    (c.in_ok-may_be_put_in.ensures c.if-not-branch.true))

pub returns-clause-ok : goal.returns-clause-ok
returns-clause-ok g c =
    clash_answer (g.N.Nodes.table c.args.terms.now) c.args.work.now.subst.now (pairs_of c.args.work.now.renamed.now)
    c.args.v.now c.args.w.now c.args.body c.requires.ready c.requires.binder c.requires.new c.requires.instance
    (λ m. true≢false (sym (c.meets.ensures.1 m) ∙ c.if-meets.false))
    (sym (c.is_some.ensures ∙ ap is_some c.get.ensures) ∙ c.if-is_some.false) c.catches.result c.catches.ensures.ok
