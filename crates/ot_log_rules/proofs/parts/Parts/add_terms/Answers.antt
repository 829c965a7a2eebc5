use Rattle.std.proofs.Common.{subst, sym, arith}
use Rattle.std.proofs.lemmas.List.{take_all}
use Rattle.ot_log_nodes.specs.Items.{HasTerm}
use Rattle.ot_log_rules.specs.Parts.{marks_each, Gathers}
use Rattle.ot_log_rules.specs.Statements.{terms_at}
use Rattle.ot_log_rules.proofs.Gathering.{gathers-nothing, gathers-next_term}
use Rattle.ot_log_rules.proofs.parts.Parts.add_terms.Goals as goal

pub loop-id-init : goal.loop-id-init
loop-id-init c = gathers-nothing c.args.nodes.now c.args.self.now c.requires.gone

pub add_term-requires-clause-id : goal.add_term-requires-clause-id
add_term-requires-clause-id c = subst (HasTerm c.args.nodes.now) (sym c.id-item.is)
    (c.requires.ids c.loop-id.id-index c.id-item.result c.loop-id-test.true)

pub add_term-requires-clause-gone : goal.add_term-requires-clause-gone
add_term-requires-clause-gone c = c.loop-id.invariant.gone

pub loop-id-preserved : goal.loop-id-preserved
loop-id-preserved c = gathers-next_term c.args.nodes.now c.args.self.now c.loop-id.self c.add_term.new.self
    c.args.ids.now c.loop-id.id-index c.id-item.result c.loop-id-test.true c.id-item.is c.loop-id.invariant
    c.in_ok-add_term.ensures

pub returns : goal.returns
returns c =
    subst (λ l. Gathers c.args.nodes.now (marks_each (terms_at c.args.nodes.now l)) c.args.self.now c.loop-id.self)
    (take_all c.loop-id.id-index c.args.ids.now (omega arith)) c.loop-id.invariant
