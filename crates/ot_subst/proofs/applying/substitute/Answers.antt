use Rattle.std.proofs.Common.{suc, [], refl, sym, subst, ◌∙◌}
use Rattle.ot_term.specs.TermTable.{term_at}
use Rattle.ot_subst.specs.Memory.{CountsParts}
use Rattle.ot_subst.proofs.Counting.{counts-either}
use Rattle.ot_subst.proofs.Unchanged.{unchanged}
use Rattle.ot_subst.proofs.applying.substitute.Goals as goal

pub returns-then-is_closed-clause-ok : goal.returns-then-is_closed-clause-ok
returns-then-is_closed-clause-ok g c =
    unchanged (g.N.Nodes.table c.args.terms.now) c.args.s.now c.args.t c.requires.inside
    (sym c.types.ensures ∙ c.is_empty.ensures.0 c.if-is_empty.true) (c.is_closed.ensures.0 c.if-is_closed.true)

pub returns-clause-counted : goal.returns-clause-counted
returns-clause-counted g c h =
    subst (λ es. CountsParts (g.N.Nodes.table c.args.terms.now) es c.args.steps.now c.walk.new.steps
    (term_at (g.N.Nodes.table c.args.terms.now).terms c.args.t) (suc c.args.t)) c.clear.ensures
    (counts-either c.walk.result (g.N.Nodes.table c.args.terms.now) (g.N.Nodes.table c.walk.new.terms) c.args.s.now []
    c.clear.new.self c.walk.new.memory c.args.steps.now c.walk.new.steps
    (term_at (g.N.Nodes.table c.args.terms.now).terms c.args.t) (suc c.args.t) c.walk.ensures.ok
    c.walk.ensures.refused refl h)
