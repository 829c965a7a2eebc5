use Rattle.std.proofs.Common.{◌∙◌}
use Rattle.ot_log_rules.proofs.Cases.{joined}
use Rattle.ot_log_rules.specs.Statements.{sequent_at}
use Rattle.ot_log_page.proofs.Deriving.{trans-made, trans-none, trans-other}
use Rattle.ot_log_page.proofs.derive.trans.Goals as goal

pub returns-in_default-clause-made : goal.returns-in_default-clause-made
returns-in_default-clause-made c = λ r k. trans-none (sequent_at c.args.nodes.now c.args.lower.now)
    (sequent_at c.args.nodes.now c.args.top.now) r c.in_default.ensures k

pub returns-in_default-as_equation-clause-made : goal.returns-in_default-as_equation-clause-made
returns-in_default-as_equation-clause-made c =
    λ r k. trans-other (sequent_at c.args.nodes.now c.args.lower.now) (sequent_at c.args.nodes.now c.args.top.now) r
    c.in_default-as_equation.ensures k

pub returns-clause-made : goal.returns-clause-made
returns-clause-made c = λ r k. trans-made c.args.nodes.now c.outer_sides.new.nodes c.primitives.ensures.once
    c.args.lower.now
    c.args.top.now _ c.in-Some.e c.in-Some-as_equation.f r c.in_ok-concl.ensures.extends
    c.requires.lower c.requires.top c.in-Some.ensures c.in-Some-as_equation.ensures
    (c.in_ok-hyps.ensures ∙ (λ i. joined (c.deref.ensures.value i) (c.deref-2.ensures.value i)))
    c.in_ok-concl.ensures.ok k
