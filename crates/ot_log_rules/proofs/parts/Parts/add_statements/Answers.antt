use Rattle.std.proofs.Common.{subst, sym, map, arith}
use Rattle.std.proofs.lemmas.List.{take_all}
use Rattle.ot_log_rules.specs.Parts.{marks_sequents, Gathers}
use Rattle.ot_log_rules.specs.Statements.{sequent_at, HasStatement}
use Rattle.ot_log_rules.proofs.Gathering.{gathers-nothing, gathers-next_sequent}
use Rattle.ot_log_rules.proofs.parts.Parts.add_statements.Goals as goal

pub loop-statement-init : goal.loop-statement-init
loop-statement-init c = gathers-nothing c.args.nodes.now c.args.self.now c.requires.gone

pub add_statement-requires-clause-has : goal.add_statement-requires-clause-has
add_statement-requires-clause-has c = subst (HasStatement c.args.nodes.now) (sym c.statement-item.is)
    (c.requires.has c.loop-statement.statement-index c.statement-item.result c.loop-statement-test.true)

pub add_statement-requires-clause-gone : goal.add_statement-requires-clause-gone
add_statement-requires-clause-gone c = c.loop-statement.invariant.gone

pub loop-statement-preserved : goal.loop-statement-preserved
loop-statement-preserved c = gathers-next_sequent c.args.nodes.now c.args.self.now c.loop-statement.self
    c.add_statement.new.self c.args.statements.now c.loop-statement.statement-index c.statement-item.result
    c.loop-statement-test.true c.statement-item.is c.loop-statement.invariant c.in_ok-add_statement.ensures

pub returns : goal.returns
returns c =
    subst (λ l. Gathers c.args.nodes.now (marks_sequents (map (sequent_at c.args.nodes.now) l)) c.args.self.now
    c.loop-statement.self) (take_all c.loop-statement.statement-index c.args.statements.now (omega arith))
    c.loop-statement.invariant
