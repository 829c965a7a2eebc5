use Rattle.std.proofs.Common.{◌∙◌}
use Rattle.ot_log_rules.specs.Statements.{sequent_at}
use Rattle.ot_log_page.proofs.Deriving.{sym-made, sym-none}
use Rattle.ot_log_page.proofs.derive.sym.Goals as goal

pub returns-in_default-clause-made : goal.returns-in_default-clause-made
returns-in_default-clause-made c = λ r k. sym-none (sequent_at c.args.nodes.now c.args.a.now) r c.in_default.ensures k

pub returns-clause-made : goal.returns-clause-made
returns-clause-made c = λ r k. sym-made c.args.nodes.now c.equation.new.self c.args.a.now _ c.in-Some.e r
    c.in_ok-concl.ensures.extends c.requires.a c.in-Some.ensures (c.in_ok-hyps.ensures.items ∙ c.deref.ensures.value)
    c.in_ok-concl.ensures.ok k
