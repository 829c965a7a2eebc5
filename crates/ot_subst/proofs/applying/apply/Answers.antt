use Rattle.std.proofs.Common.{suc, [], refl, arith}
use Rattle.ot_term.specs.TermTable.{term_at}
use Rattle.ot_subst.proofs.Counting.{counted-size, injective-before}
use Rattle.ot_subst.proofs.Growing.{IsSubstOf-Grows}
use Rattle.ot_subst.proofs.applying.apply.Goals as goal

pub returns-in_err-substitute-clause-steps : goal.returns-in_err-substitute-clause-steps
returns-in_err-substitute-clause-steps g c h =
    counted-size (g.N.Nodes.table c.args.terms.now)
    (injective-before (g.N.Nodes.table c.args.terms.now).terms (g.N.Nodes.table c.substitute.new.terms).terms
    c.in_err-substitute.ensures.later.grows.terms c.in_err-substitute.ensures.later.table.injective) []
    c.args.steps.now
    c.substitute.new.steps (term_at (g.N.Nodes.table c.args.terms.now).terms c.args.t) (suc c.args.t)
    (omega (arith, c.requires.inside)) refl (c.in_err-substitute.ensures.counted h)

pub returns-clause-steps : goal.returns-clause-steps
returns-clause-steps g c h =
    counted-size (g.N.Nodes.table c.args.terms.now)
    (injective-before (g.N.Nodes.table c.args.terms.now).terms (g.N.Nodes.table c.substitute.new.terms).terms
    c.in_ok-substitute.ensures.later.grows.terms c.in_ok-substitute.ensures.later.table.injective) [] c.args.steps.now
    c.substitute.new.steps (term_at (g.N.Nodes.table c.args.terms.now).terms c.args.t) (suc c.args.t)
    (omega (arith, c.requires.inside)) refl (c.in_ok-substitute.ensures.counted h)

pub returns-in_err-substitute-clause-fits : goal.returns-in_err-substitute-clause-fits
returns-in_err-substitute-clause-fits g c = IsSubstOf-Grows (g.N.Nodes.table c.args.terms.now)
    (g.N.Nodes.table c.substitute.new.terms) c.in_err-substitute.ensures.later.grows c.args.s.now c.requires.subst

pub returns-clause-fits : goal.returns-clause-fits
returns-clause-fits g c = IsSubstOf-Grows (g.N.Nodes.table c.args.terms.now) (g.N.Nodes.table c.substitute.new.terms)
    c.in_ok-substitute.ensures.later.grows c.args.s.now c.requires.subst
