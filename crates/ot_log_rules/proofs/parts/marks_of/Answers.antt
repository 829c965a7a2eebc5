use Rattle.ot_log_rules.proofs.Gathering.{gathered}
use Rattle.ot_log_rules.proofs.parts.marks_of.Goals as goal

pub add_statement-requires-clause-gone : goal.add_statement-requires-clause-gone
add_statement-requires-clause-gone c = c.new-parts.ensures.gone c.args.nodes.now

pub returns : goal.returns
returns c = gathered c.args.nodes.now _ c.new-parts.result c.add_statement.new.self c.new-parts.ensures.none
    c.in_ok-add_statement.ensures
